-- What the sets of a log have left at each place, in the order of the places.
use Rattle.std.specs.Prelude.{cond, ◌≡◌, ◌==◌, ◌<◌, ◌≤◌, ℕ, nat_lt, List, [], ◌∷◌, map, take, T, Option, Some, None, if◌then◌else◌}
use Rattle.std.specs.FinMap as fin
use Rattle.std.specs.FinMap.{find, from_sorted, is_sorted}
use Rattle.pg_values.specs.declared.value.Value.{Value}
use Rattle.sql_eval.specs.declared.row.Row.{Row}
use Rattle.sql_eval.specs.Views.{Entry, entry}
use Rattle.sql_eval.specs.declared.effect.Change.{Change}
use Rattle.backend_trait.specs.Keys.{Place, is_place, place, place_order}
use Rattle.backend_trait.specs.Effect.{changes_of}
use Rattle.backend_trait.specs.Rows.{Rows, changed_at}
use Rattle.outcomes.specs.declared.chain.Version.{Version}
use Rattle.outcomes.specs.declared.chain.Chain.{Chain}
use Rattle.outcomes.specs.declared.change.ChangeSet.{ChangeSet}
use Rattle.outcomes.specs.Log.{rows_of}
use Rattle.outcomes.specs.Sights.{all_laid}

-- the newer of two, where there is one
abbrev pub newer : Option (Option Row) → Option (Option Row) → Option (Option Row)
newer None old = old
newer (Some new) old = Some new

-- what a version leaves, where its set is one of the first, so many of them
abbrev pub left_until : ℕ → Version → Option (Option Row)
left_until mark v = if nat_lt v.set mark then Some v.row else None

-- what the last of those versions leaves
abbrev pub shown : ℕ → List Version → Option (Option Row)
shown mark [] = None
shown mark (v ∷ vs) = newer (shown mark vs) (left_until mark v)

-- the row that is left
abbrev pub row_left : Option (Option Row) → Option Row
row_left None = None
row_left (Some row) = row

-- at each of some places the versions that sets have left there, oldest first
abbrev pub Chained : Type 0
Chained = List (Place × List Version)

abbrev pub chained : Chain → Place × List Version
chained chain = (place chain.table chain.key, chain.versions.items)

abbrev pub all_chained : List Chain → Chained
all_chained chains = map chained chains

-- the versions of a place
abbrev pub versions_in : Option (List Version) → List Version
versions_in None = []
versions_in (Some vs) = vs

-- what is left at a place
abbrev pub shown_at : ℕ → Chained → Place → Option (Option Row)
shown_at mark es q = shown mark (versions_in (find place_order q es))

-- a row at its place, before others
abbrev pub put_shown : Place → Option Row → List (Place × Row) → List (Place × Row)
put_shown p None es = es
put_shown p (Some row) es = (p, row) ∷ es

abbrev pub shown_rows : ℕ → Chained → List (Place × Row)
shown_rows mark [] = []
shown_rows mark (e ∷ es) = put_shown e.0 (row_left (shown mark e.1)) (shown_rows mark es)

-- the rows that the first sets have left, so many of them
abbrev pub rows_until : ℕ → Chained → Rows
rows_until mark es = from_sorted (shown_rows mark es)

abbrev pub entry_or : Option Entry → Option Entry → Option Entry
entry_or None other = other
entry_or (Some e) other = Some e

-- a row that is left, and its key
abbrev pub entry_left : Value → Option Row → Option Entry
entry_left key None = None
entry_left key (Some row) = Some (entry key row)

-- the first row of a table, where none of an earlier table stands before
abbrev pub first_entry : ℕ → ℕ → Chained → Option Entry
first_entry mark table [] = None
first_entry mark table (e ∷ es) = if e.0.table == table then entry_or (entry_left e.0.key (row_left (shown mark e.1))) (first_entry mark table es) else None

-- a set has changed a place: the rows that later marks show are changed, those of earlier ones are not
pub record IsPut (set : ℕ) (p : Place) (row : Option Row) (old new : Chained) : Type 0 where
  pub sorted : T (is_sorted place_order new)
  pub later : (mark : ℕ) → set < mark → rows_until mark new ≡ changed_at (rows_until mark old) p row
  pub earlier : (mark : ℕ) → mark ≤ set → rows_until mark new ≡ rows_until mark old
  pub each : (mark : ℕ) → set < mark → (q : Place) → shown_at mark new q ≡ cond (is_place q p) (Some row) (shown_at mark old q)

-- a set has made changes, one after another
pub record ArePut (set : ℕ) (changes : List Change) (old new : Chained) : Type 0 where
  pub sorted : T (is_sorted place_order new)
  pub later : (mark : ℕ) → set < mark → rows_until mark new ≡ all_laid (rows_until mark old) changes
  pub earlier : (mark : ℕ) → mark ≤ set → rows_until mark new ≡ rows_until mark old
  pub each : (mark : ℕ) → set < mark → (q : Place) → shown_at mark new q ≡ newer (fin.get (changes_of changes) q) (shown_at mark old q)

-- chains show at each mark the rows of so many sets
abbrev pub AreOfSets : Chained → List ChangeSet → Type 0
AreOfSets es sets = (mark : ℕ) → rows_until mark es ≡ rows_of (take mark sets)
