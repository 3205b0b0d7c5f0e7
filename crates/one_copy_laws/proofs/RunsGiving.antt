-- What the result of a run is: rows, which change nothing, or a count.
use Rattle.std.proofs.Common.{◌≡◌, ℕ, ℤ, true, false, List, [], ◌∷◌, length, map, refl, sym, ap, ◌∙◌}
use Rattle.std.specs.Prelude.{Option, Ok, Err}
use Rattle.std.specs.FinMap as fin
use Rattle.schema.specs.declared.catalogue.TableDef.{TableDef}
use Rattle.catalogue.specs.declared.checked.Checked.{Checked}
use Rattle.sql_eval.specs.declared.row.Row.{Row}
use Rattle.sql_eval.specs.Walks.{Coded}
use Rattle.sql_eval.specs.Reads.{alone}
use Rattle.sql_eval.specs.Effects as effects
use Rattle.sql_eval.specs.Effects.{Reads, Writes, given_by}
use Rattle.backend_trait.specs.declared.answer.Answer.{Answer}
use Rattle.backend_trait.specs.declared.answer.Answer.TheVariants as answers
use Rattle.backend_trait.specs.Keys.{Place, place_order}
use Rattle.backend_trait.specs.Rows.{Rows, Changes, no_changes, joined_changes}
use Rattle.backend_trait.specs.Effect.{Given, Fails, Gives, changes_of, place_changed, keys_in, given_as, table_in, number_from, effect_of}
use Rattle.backend_trait.proofs.RowLaws.{change_over, get-joined_changes, same_changes}
use Rattle.backend_trait.specs.Store.{is_refusal}
use Rattle.one_copy_model.specs.declared.deed.Deed.TheVariants.{Gets}
use Rattle.one_copy_model.specs.Places.{decided_run}
use Rattle.one_copy_model.specs.Chains.{IsResult}

-- what a result changes
pub data IsResultWith (answer : Answer) (changes : Changes) : Type 0 where
  gives_rows : (rows : List Row) → answer ≡ answers.Rows rows → changes ≡ no_changes → IsResultWith answer changes
  gives_count : (n : ℕ) → answer ≡ answers.Count n → IsResultWith answer changes

pub given_forms : (tables : List TableDef) (checked : Checked) (view : Rows) (next : Option ℤ) (answer : Answer) (changes : Changes) (places : List Place)
    → (effect_of tables checked view next).given ≡ Gives answer changes places → IsResultWith answer changes
unfolding effect_of
given_forms tables checked view next answer changes places e = by (given_by alone tables checked.body view (number_from next)) e
  where
    by : (found : Coded effects.Given) → given_as (table_in checked) found ≡ Gives answer changes places → IsResultWith answer changes
    by (Err code) e = absurd (let z : Fails code ≡ Gives answer changes places = e in cc)
    by (Ok (Reads read)) e =
        let z : Gives (answers.Rows read.rows) no_changes (keys_in (table_in checked) read.keys) ≡ Gives answer changes places = e in
        let rows : answers.Rows read.rows ≡ answer = cc in
        let none : no_changes ≡ changes = cc in
        gives_rows read.rows (sym rows) (sym none)
    by (Ok (Writes cs)) e =
        let z : Gives (answers.Count (length cs)) (changes_of cs) (map place_changed cs) ≡ Gives answer changes places = e in
        let count : answers.Count (length cs) ≡ answer = cc in
        gives_count (length cs) (sym count)

-- no changes over some are those
pub joined_none : (old : Changes) → joined_changes no_changes old ≡ old
joined_none old = same_changes (joined_changes no_changes old) old (λ q. get-joined_changes no_changes old q ∙ ap (λ c. change_over c (fin.get old q)) (fin.get-empty place_order q))

-- what a statement gives where its answer is this result
pub result_is : (g : Given) (answer : Answer) → IsResult answer g → (changes : Changes) × (places : List Place) × (g ≡ Gives answer changes places)
result_is (Fails code) answer r = absurd r
result_is (Gives result changes places) answer r = (changes, places, ap (λ (a : Answer). Gives a changes places) (sym r))

-- what it places
pub decided_plain : (answer : Answer) → is_refusal answer ≡ false → decided_run answer ≡ Gets answer ∷ []
decided_plain answers.Began e = refl
decided_plain (answers.Rows rows) e = refl
decided_plain (answers.Count n) e = refl
decided_plain answers.Locked e = refl
decided_plain answers.Done e = refl
decided_plain (answers.Serial n) e = refl
decided_plain (answers.Refused code) e = absurd (let z : true ≡ false = e in cc)
