-- Rows on a shelf as a view: what stands at a place, what stands behind a key, and that each row is under its key.
use Rattle.std.proofs.Common.{◌≡◌, ℕ, zero, suc, List, [], ◌∷◌, map, refl, ap, sym, ◌∙◌, subst}
use Rattle.std.specs.Prelude.{◌==◌, ◌≢◌, ◌&&◌, All, cond, T, Bool as Truth, true, false, Option, Some, None, is_some, slice_get}
use Rattle.std.specs.List.{AllByRecursion, filter, find}
use Rattle.std.specs.Option.{option_map}
use Rattle.std.proofs.lemmas.List.Elements.{All-from_recursion}
use Rattle.std.proofs.lemmas.Bool.{eqb-true}
use Rattle.std.proofs.Math.Dec.{eqb-zero-suc}
use Rattle.std.specs.FinMap as fin
use Rattle.std.specs.FinMap.{entries-from_sorted, get-from_sorted}
use Rattle.std.specs.FinMap.Entries.{is_sorted}
use Rattle.pg_values.specs.declared.value.Value.{Value}
use Rattle.schema.specs.declared.catalogue.TableDef.{TableDef}
use Rattle.sql_values.specs.Outcome.{or_null}
use Rattle.sql_eval.specs.declared.row.Row.{Row}
use Rattle.sql_eval.specs.Views.{Place, Entry, entry, place_order, entries_in, is_behind, row_behind, key_column, IsUnderItsKey}
use Rattle.sql_eval.specs.Effects.{IsKeyedAt}
use Rattle.effect_cases.specs.Shelves.{stands, stood, view_of, has_key, have_keys, keyed, first_behind}

abbrev Stood : Type 0
Stood = Place × Row

abbrev row_in : Entry → Row
row_in e = e.row

abbrev to_entry : Stood → Entry
to_entry e = entry e.0.key e.1

abbrev is_in : ℕ → Stood → Truth
is_in table e = e.0.table == table

-- those of a table, as entries
abbrev in_table : ℕ → List Stood → List Entry
in_table table es = map to_entry (filter (is_in table) es)

all_here : (rows : List Row) → in_table 0 (stood rows) ≡ map keyed rows
all_here [] = refl
all_here (row ∷ rows) = ap (λ es. keyed row ∷ es) (all_here rows)

none_there : (table : ℕ) (rows : List Row) → (0 == table) ≡ false → in_table table (stood rows) ≡ []
none_there table [] other = refl
none_there table (row ∷ rows) other =
    ap (λ b. map to_entry (cond b (stands row ∷ filter (is_in table) (stood rows)) (filter (is_in table) (stood rows)))) other
    ∙ none_there table rows other

is_other : (table : ℕ) → table ≢ 0 → (0 == table) ≡ false
is_other zero other = absurd (other refl)
is_other (suc n) other = eqb-zero-suc n

found_first : (key : Option Value) (rows : List Row) → option_map row_in (find (is_behind key) (map keyed rows)) ≡ first_behind key rows
found_first key [] = refl
found_first key (row ∷ rows) =
    elim (is_behind key (keyed row)) as (λ b. option_map row_in (cond b (Some (keyed row)) (find (is_behind key) (map keyed rows)))
    ≡ cond b (Some row) (first_behind key rows)) [ true ↦ refl | false ↦ found_first key rows ]

under_key : (row : Row) → has_key row ≡ true → IsUnderItsKey 0 (keyed row)
under_key row is =
    elim (slice_get row.cells 0) as (λ (o : Option Value). is_some o ≡ true → o ≡ Some (or_null o)) [
      | None ↦ λ no. absurd (subst (λ b. T b) (sym no) tt)
      | Some own ↦ λ yes. refl
    ] is

both_hold : (a b : Truth) → (a && b) ≡ true → (a ≡ true) × (b ≡ true)
both_hold true b h = (refl, h)
both_hold false b h = absurd (subst (λ c. T c) (sym h) tt)

all_under_keys : (rows : List Row) → have_keys rows ≡ true → AllByRecursion (IsUnderItsKey 0) (map keyed rows)
all_under_keys [] have = tt
all_under_keys (row ∷ rows) have =
    let parts = both_hold (has_key row) (have_keys rows) have in
    (under_key row parts.0, all_under_keys rows parts.1)

module _ (rows : List Row) (rising : is_sorted place_order (stood rows) ≡ true) where
  on_shelf : fin.entries (view_of rows) ≡ stood rows
  on_shelf = entries-from_sorted place_order (stood rows) (subst (λ b. T b) (sym rising) tt)

  pub shelf_at : (q : Place) → fin.get (view_of rows) q ≡ fin.find place_order q (stood rows)
  shelf_at q = get-from_sorted place_order (stood rows) q (subst (λ b. T b) (sym rising) tt)

  entries_of : (table : ℕ) → entries_in (view_of rows) table ≡ in_table table (stood rows)
  entries_of table = ap (λ es. in_table table es) on_shelf

  pub shelf_behind : (key : Option Value) → row_behind (view_of rows) 0 key ≡ first_behind key rows
  shelf_behind key =
      ap (λ es. option_map row_in (find (is_behind key) es)) (entries_of 0 ∙ all_here rows) ∙ found_first key rows

  pub shelf_elsewhere : (table : ℕ) (key : Option Value) → table ≢ 0 → row_behind (view_of rows) table key ≡ None
  shelf_elsewhere table key other =
      ap (λ es. option_map row_in (find (is_behind key) es)) (entries_of table ∙ none_there table rows (is_other table other))

  module _ (have : have_keys rows ≡ true) (tables : List TableDef) (first : key_column (slice_get tables 0) ≡ 0) where
    keyed_here : All (IsUnderItsKey (key_column (slice_get tables 0))) (entries_in (view_of rows) 0)
    keyed_here =
        subst (λ column. All (IsUnderItsKey column) (entries_in (view_of rows) 0)) (sym first)
        (subst (λ es. All (IsUnderItsKey 0) es) (sym (entries_of 0 ∙ all_here rows))
        (All-from_recursion (IsUnderItsKey 0) (map keyed rows) (all_under_keys rows have)))

    keyed_in : (table : ℕ) → All (IsUnderItsKey (key_column (slice_get tables table))) (entries_in (view_of rows) table)
    keyed_in table =
        elim (0 == table) as (λ b. (0 == table) ≡ b → All (IsUnderItsKey (key_column (slice_get tables table))) (entries_in (view_of rows) table)) [
          | true ↦ λ same. subst (λ n. All (IsUnderItsKey (key_column (slice_get tables n))) (entries_in (view_of rows) n))
              (eqb-true 0 table same) keyed_here
          | false ↦ λ other. subst (λ es. All (IsUnderItsKey (key_column (slice_get tables table))) es)
              (sym (entries_of table ∙ none_there table rows other))
              (All-from_recursion (IsUnderItsKey (key_column (slice_get tables table))) [] tt)
        ] refl

    pub shelf_keyed : (table : Option ℕ) → IsKeyedAt tables (view_of rows) table
    shelf_keyed None = tt
    shelf_keyed (Some table) = keyed_in table
