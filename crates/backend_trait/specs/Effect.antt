-- The effect of a statement on the rows that its transaction sees, as a store gives it.
use Rattle.std.specs.Prelude.{◌≡◌, ◌≤ℤ◌, ℕ, ℤ, pos, Bool, true, false, ◌||◌, List, [], ◌∷◌, ◌++◌, map, length, Option, Some, None, Ok, Err}
use Rattle.std.specs.List.{list_any}
use Rattle.std.specs.FinMap as fin
use Rattle.pg_values.specs.declared.value.Value.{Value}
use Rattle.schema.specs.declared.catalogue.TableDef.{TableDef}
use Rattle.catalogue.specs.declared.checked.Checked.{Checked}
use Rattle.sql_eval.specs.declared.effect.Change.{Change}
use Rattle.sql_eval.specs.Walks.{Coded}
use Rattle.sql_eval.specs.Reads.{alone}
use Rattle.sql_eval.specs.Effects as effects
use Rattle.sql_eval.specs.Effects.{Reads, Writes}
use Rattle.backend_trait.specs.declared.answer.Answer.{Answer}
use Rattle.backend_trait.specs.declared.answer.Answer.TheVariants as answers
use Rattle.backend_trait.specs.Keys.{Place, place, is_place}
use Rattle.backend_trait.specs.Rows.{Rows, Changes, no_changes}

-- what a session wants or holds: places, and the locks of tables
pub record Wants : Type 0 where
  pub places : List Place
  pub tables : ℕ → Bool

abbrev pub nothing : Wants
nothing = record { places = []; tables = λ t. false }

abbrev pub these_places : List Place → Wants
these_places places = record { places = places; tables = λ t. false }

abbrev pub both_wants : Wants → Wants → Wants
both_wants a b = record { places = a.places ++ b.places; tables = λ t. a.tables t || b.tables t }

abbrev pub is_among : List Place → Place → Bool
is_among places p = list_any (is_place p) places

-- whether a place is among what is wanted
abbrev pub has_place : Wants → Place → Bool
has_place wants p = is_among wants.places p

-- the two share a place or a table, or one has the table of the other's place
pub data Conflicts (a b : Wants) : Type 0 where
  same_place : (p : Place) → has_place a p ≡ true → has_place b p ≡ true → Conflicts a b
  same_table : (t : ℕ) → a.tables t ≡ true → b.tables t ≡ true → Conflicts a b
  table_left : (p : Place) → a.tables p.table ≡ true → has_place b p ≡ true → Conflicts a b
  table_right : (p : Place) → has_place a p ≡ true → b.tables p.table ≡ true → Conflicts a b

-- whether the lock of a statement's table is among what is held; a statement without a table has none
abbrev pub has_lock_of : Wants → Option ℕ → Bool
has_lock_of wants None = false
has_lock_of wants (Some table) = wants.tables table

-- what is left at places, one change after another: of two at one place the later counts
abbrev pub place_changed : Change → Place
place_changed c = place c.table c.key

abbrev pub changed_on : Changes → List Change → Changes
changed_on old [] = old
changed_on old (c ∷ cs) = changed_on (fin.insert old (place_changed c) c.row) cs

abbrev pub changes_of : List Change → Changes
changes_of cs = changed_on no_changes cs

-- the code of the first rule that fails, or what a statement gives: its answer, what it changes, and the places that it wants
pub data Given : Type 0 where
  Fails : (code : List ℕ) → Given
  Gives : (answer : Answer) → (changes : Changes) → (places : List Place) → Given

-- how many serial numbers it draws, and what it gives
pub record Effect : Type 0 where
  pub draws : ℕ
  pub given : Given

abbrev pub keys_in : Option ℕ → List Value → List Place
keys_in None keys = []
keys_in (Some table) keys = map (place table) keys

-- a read answers its rows, and wants those that FOR UPDATE holds; a write answers how many rows it changes, and wants them
abbrev pub given_as : Option ℕ → Coded effects.Given → Given
given_as table (Err code) = Fails code
given_as table (Ok (Reads read)) = Gives (answers.Rows read.rows) no_changes (keys_in table read.keys)
given_as table (Ok (Writes changes)) = Gives (answers.Count (length changes)) (changes_of changes) (map place_changed changes)

-- the statement's table, if it has one
abbrev pub table_in : Checked → Option ℕ
table_in checked = effects.table_in checked.body

-- the numbers of a serial column begin with 1
abbrev pub number_from : Option ℤ → ℤ
number_from None = pos 1
number_from (Some next) = next

abbrev pub IsPositive : Option ℤ → Type 0
IsPositive next = (n : ℤ) → next ≡ Some n → pos 1 ≤ℤ n

-- how many numbers a statement draws: it hangs on the statement and on the next number of its table, and on nothing that is seen
abbrev pub draws_of : List TableDef → Checked → Option ℤ → ℕ
draws_of tables checked next = effects.draws_of tables checked.body (number_from next)

-- the statement over the tables on a view, and on the next serial number of its table where it has one
unfoldable pub effect_of : List TableDef → Checked → Rows → Option ℤ → Effect
effect_of tables checked view next =
    let effect = effects.effect_of alone tables checked.body view (number_from next) in
    record { draws = draws_of tables checked next; given = given_as (table_in checked) effect.given }
