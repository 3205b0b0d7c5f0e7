-- What a runnable statement gives over rows that stand in their tables: an answer of its form, and changes that stand too.
use Rattle.std.proofs.Common.{◌≡◌, ◌∙◌, ℕ, ℤ, List, length, refl, sym, subst}
use Rattle.std.specs.Prelude.{true, Option, Ok, Err}
use Rattle.std.specs.List.{list_all}
use Rattle.schema.specs.declared.catalogue.TableDef.{TableDef}
use Rattle.schema.specs.Allowed.{AreAllowed}
use Rattle.catalogue.specs.declared.checked.Checked.{Checked}
use Rattle.catalogue.specs.declared.checked.CheckedBody.{CheckedBody}
use Rattle.catalogue.specs.declared.checked.CheckedBody.TheVariants as body
use Rattle.catalogue.specs.declared.checked.ColumnDesc.{ColumnDesc}
use Rattle.sql_eval.specs.declared.effect.Change.{Change}
use Rattle.sql_eval.specs.declared.effect.ReadEffect.{ReadEffect}
use Rattle.sql_eval.specs.Walks.{Coded, made}
use Rattle.sql_eval.specs.Reads.{alone}
use Rattle.sql_eval.specs.Effects as effects
use Rattle.sql_eval.specs.Effects.{given_by}
use Rattle.backend_trait.specs.Typed.{AreAllStored, has_columns}
use Rattle.backend_trait.proofs.LeftRows as left
use Rattle.backend_trait.proofs.ReadRows.{all_read}
use Rattle.backend_trait.specs.declared.answer.Answer.{Answer}
use Rattle.backend_trait.specs.declared.answer.Answer.TheVariants as answers
use Rattle.backend_trait.specs.Keys.{Place}
use Rattle.backend_trait.specs.Rows.{Changes, Rows, laid_over, no_changes}
use Rattle.backend_trait.specs.Effect.{Gives, changes_of, effect_of, given_as, number_from, table_in}
use Rattle.backend_trait.specs.Runnable.{IsRunnable, is_given, is_of_run}
use Rattle.backend_trait.proofs.RowLaws.{laid_over-none}
use Rattle.outcomes.proofs.Giving.{given_is}
use Rattle.outcomes.proofs.StoredRows.{changes_stored, laid_stored}

no_write : {A : Type 0} (o : Coded ReadEffect) (cs : List Change) → made effects.Reads o ≡ Ok (effects.Writes cs) → A
no_write (Ok r) cs is = absurd (cc)
no_write (Err code) cs is = absurd (cc)

no_read : {A : Type 0} (o : Coded (List Change)) (r : ReadEffect) → made effects.Writes o ≡ Ok (effects.Reads r) → A
no_read (Ok cs) r is = absurd (cc)
no_read (Err code) r is = absurd (cc)

-- a statement that gives rows is a SELECT, and one that gives changes is none
read_form : (tables : List TableDef) (b : CheckedBody) (columns : List ColumnDesc) (view : Rows) (next : ℤ) (r : ReadEffect)
    → given_by alone tables b view next ≡ Ok (effects.Reads r) → list_all (has_columns columns) r.rows ≡ true → is_given b columns (answers.Rows r.rows) ≡ true
read_form tables (body.Read read) columns view next r is all = all
read_form tables (body.Insert insert) columns view next r is all = no_read _ r is
read_form tables (body.Change change) columns view next r is all = no_read _ r is
read_form tables (body.Remove remove) columns view next r is all = no_read _ r is

write_form : (tables : List TableDef) (b : CheckedBody) (columns : List ColumnDesc) (view : Rows) (next : ℤ) (cs : List Change) (n : ℕ)
    → given_by alone tables b view next ≡ Ok (effects.Writes cs) → is_given b columns (answers.Count n) ≡ true
write_form tables (body.Read read) columns view next cs n is = no_write _ cs is
write_form tables (body.Insert insert) columns view next cs n is = refl
write_form tables (body.Change change) columns view next cs n is = refl
write_form tables (body.Remove remove) columns view next cs n is = refl

module _ (tables : List TableDef) (checked : Checked) (view : Rows) (runnable : IsRunnable tables checked) (stored : AreAllStored tables view) where
  module _ (next : ℤ) (answer : Answer) (changes : Changes) (places : List Place) where
    answer_form : (given : Coded effects.Given) → given_by alone tables checked.body view next ≡ given → given_as (table_in checked) given ≡ Gives answer changes places
        → is_of_run checked answer ≡ true
    answer_form (Err code) is gives = absurd (cc)
    answer_form (Ok (effects.Reads r)) is gives =
        let same : answers.Rows r.rows ≡ answer = cc in
        subst (λ (a : Answer). is_of_run checked a ≡ true) same
        (read_form tables checked.body checked.columns view next r is (all_read tables checked view next r runnable.of_tables runnable.bound stored is))
    answer_form (Ok (effects.Writes cs)) is gives =
        let same : answers.Count (length cs) ≡ answer = cc in
        subst (λ (a : Answer). is_of_run checked a ≡ true) same (write_form tables checked.body checked.columns view next cs (length cs) is)

    rows_stored : AreAllowed tables → (given : Coded effects.Given) → given_by alone tables checked.body view next ≡ given
        → given_as (table_in checked) given ≡ Gives answer changes places → AreAllStored tables (laid_over changes view)
    rows_stored allowed (Err code) is gives = absurd (cc)
    rows_stored allowed (Ok (effects.Reads r)) is gives =
        let same : no_changes ≡ changes = cc in
        subst (λ (c : Changes). AreAllStored tables (laid_over c view)) same (subst (AreAllStored tables) (sym (laid_over-none view)) stored)
    rows_stored allowed (Ok (effects.Writes cs)) is gives =
        let same : changes_of cs ≡ changes = cc in
        subst (λ (c : Changes). AreAllStored tables (laid_over c view)) same
        (laid_stored tables view (changes_of cs) stored
        (changes_stored tables cs (left.all_stored tables checked view next cs allowed runnable.of_tables runnable.bound stored is)))

  pub answer_shaped : (next : Option ℤ) (answer : Answer) (changes : Changes) (places : List Place) → (effect_of tables checked view next).given ≡ Gives answer changes places
      → is_of_run checked answer ≡ true
  answer_shaped next answer changes places gives =
      let given = given_by alone tables checked.body view (number_from next) in
      answer_form (number_from next) answer changes places given refl (sym (given_is tables checked view next given refl) ∙ gives)

  pub rows_shaped : AreAllowed tables → (next : Option ℤ) (answer : Answer) (changes : Changes) (places : List Place)
      → (effect_of tables checked view next).given ≡ Gives answer changes places → AreAllStored tables (laid_over changes view)
  rows_shaped allowed next answer changes places gives =
      let given = given_by alone tables checked.body view (number_from next) in
      rows_stored (number_from next) answer changes places allowed given refl (sym (given_is tables checked view next given refl) ∙ gives)
