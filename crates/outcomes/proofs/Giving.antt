-- What a statement gives, by what it is made of.
use Rattle.std.proofs.Common.{◌≡◌, ℕ, ℤ, pos, List, refl, ap, sym, subst, ◌∙◌}
use Rattle.std.specs.Prelude.{Option, Result, Ok, Err, IfOk}
use Rattle.pool_base.specs.declared.no_memory.NoMemory.{NoMemory}
use Rattle.schema.specs.declared.catalogue.TableDef.{TableDef}
use Rattle.catalogue.specs.declared.checked.Checked.{Checked}
use Rattle.catalogue.specs.declared.checked.CheckedBody.{CheckedBody}
use Rattle.catalogue.specs.declared.checked.CheckedBody.TheVariants as body
use Rattle.catalogue.specs.declared.checked.CheckedRead.{CheckedRead}
use Rattle.sql_eval.specs.declared.effect.ReadEffect.{ReadEffect}
use Rattle.sql_eval.specs.declared.effect.WriteEffect.{WriteEffect}
use Rattle.sql_eval.specs.declared.effect.EvalFault.{EvalFault}
use Rattle.sql_eval.specs.declared.effect.EvalFault.TheVariants as fault
use Rattle.sql_eval.specs.Walks.{Coded}
use Rattle.sql_eval.specs.Reads.{alone}
use Rattle.sql_eval.specs.Effects as effects
use Rattle.sql_eval.specs.Effects.{IsRead, IsReadBody, IsWrite, given_by}
use Rattle.backend_trait.specs.Rows.{Rows}
use Rattle.backend_trait.specs.Effect.{Given, effect_of, given_as, number_from, table_in}
use Rattle.outcomes.specs.declared.outcome.Outcome.{Outcome}
use Rattle.outcomes.specs.Given.{given_in}

-- a read does not hang on the next serial number
pub next_unseen : (tables : List TableDef) (b : CheckedBody) (view : Rows) (m n : ℤ) → IsReadBody b → given_by alone tables b view m ≡ given_by alone tables b view n
next_unseen tables (body.Read read) view m n is = refl
next_unseen tables (body.Insert insert) view m n is = absurd is
next_unseen tables (body.Change change) view m n is = absurd is
next_unseen tables (body.Remove remove) view m n is = absurd is

-- what a store gives is made of the effect
pub given_is : (tables : List TableDef) (checked : Checked) (view : Rows) (next : Option ℤ) (given : Coded effects.Given)
    → given_by alone tables checked.body view (number_from next) ≡ given → (effect_of tables checked view next).given ≡ given_as (table_in checked) given
unfolding effect_of
given_is tables checked view next given is = ap (given_as (table_in checked)) is

-- a fault of a write is one of a read
pub refused_so : (f : EvalFault) (effect : effects.Effect) → IsWrite (Err f) effect → IsRead (Err f) effect
refused_so (fault.Refused code draws) effect is = is
refused_so fault.NoMemory effect is = tt

effect_unseen : (tables : List TableDef) (b : CheckedBody) (view : Rows) (m n : ℤ) → IsReadBody b → effects.effect_of alone tables b view m ≡ effects.effect_of alone tables b view n
effect_unseen tables (body.Read read) view m n is = refl
effect_unseen tables (body.Insert insert) view m n is = absurd is
effect_unseen tables (body.Change change) view m n is = absurd is
effect_unseen tables (body.Remove remove) view m n is = absurd is

pub same_given : (r : Result Outcome NoMemory) (a b : Given) → IfOk r (λ o. given_in o ≡ a) → a ≡ b → IfOk r (λ o. given_in o ≡ b)
same_given (Ok o) a b is same = is ∙ same
same_given (Err e) a b is same = tt

module _ (tables : List TableDef) (checked : Checked) (view : Rows) (next : Option ℤ) (r : Result Outcome NoMemory) where
  abbrev IsGiven : Type 0
  IsGiven = IfOk r (λ o. given_in o ≡ (effect_of tables checked view next).given)

  abbrev effect_at : ℤ → effects.Effect
  effect_at n = effects.effect_of alone tables checked.body view n

  pub read_gives : (read : CheckedRead) (given : ReadEffect) → checked.body ≡ body.Read read → IsRead (Ok given) (effect_at (pos 1))
      → IfOk r (λ o. given_in o ≡ given_as read.table (Ok (effects.Reads given))) → IsGiven
  read_gives read given is effect answered =
      let reads : IsReadBody checked.body = subst IsReadBody (sym is) tt in
      let table : read.table ≡ table_in checked = sym (ap effects.table_in is) in
      same_given r (given_as read.table (Ok (effects.Reads given))) (effect_of tables checked view next).given answered
      (ap (λ (t : Option ℕ). given_as t (Ok (effects.Reads given))) table
      ∙ sym (given_is tables checked view next (Ok (effects.Reads given)) (next_unseen tables checked.body view (number_from next) (pos 1) reads ∙ effect.1)))

  fails : (f : EvalFault) → IsRead (Err f) (effect_at (number_from next))
      → ((table : Option ℕ) (effect : effects.Effect) → IsRead (Err f) effect → IfOk r (λ o. given_in o ≡ given_as table effect.given)) → IsGiven
  fails f effect answered =
      same_given r (given_as (table_in checked) (effect_at (number_from next)).given) (effect_of tables checked view next).given
      (answered (table_in checked) (effect_at (number_from next)) effect)
      (sym (given_is tables checked view next (effect_at (number_from next)).given refl))

  pub read_fails : (read : CheckedRead) (f : EvalFault) → checked.body ≡ body.Read read → IsRead (Err f) (effect_at (pos 1))
      → ((table : Option ℕ) (effect : effects.Effect) → IsRead (Err f) effect → IfOk r (λ o. given_in o ≡ given_as table effect.given)) → IsGiven
  read_fails read f is effect answered =
      let reads : IsReadBody checked.body = subst IsReadBody (sym is) tt in
      fails f (subst (IsRead (Err f)) (effect_unseen tables checked.body view (pos 1) (number_from next) reads) effect) answered

  pub write_gives : (given : WriteEffect) (n : ℤ) → n ≡ number_from next → IsWrite (Ok given) (effect_at n)
      → ((table : Option ℕ) → IfOk r (λ o. given_in o ≡ given_as table (Ok (effects.Writes given.changes)))) → IsGiven
  write_gives given n is effect answered =
      let here : IsWrite (Ok given) (effect_at (number_from next)) = subst (λ (m : ℤ). IsWrite (Ok given) (effect_at m)) is effect in
      same_given r (given_as (table_in checked) (Ok (effects.Writes given.changes))) (effect_of tables checked view next).given (answered (table_in checked))
      (sym (given_is tables checked view next (Ok (effects.Writes given.changes)) here.1))

  pub write_fails : (f : EvalFault) (n : ℤ) → n ≡ number_from next → IsWrite (Err f) (effect_at n)
      → ((table : Option ℕ) (effect : effects.Effect) → IsRead (Err f) effect → IfOk r (λ o. given_in o ≡ given_as table effect.given)) → IsGiven
  write_fails f n is effect answered =
      fails f (refused_so f (effect_at (number_from next)) (subst (λ (m : ℤ). IsWrite (Err f) (effect_at m)) is effect)) answered
