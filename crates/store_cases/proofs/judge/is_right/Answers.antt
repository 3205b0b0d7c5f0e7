use Rattle.std.proofs.Common.{Bool, subst, sym}
use Rattle.std.specs.Prelude.{◌↔◌, IfOk, IsTrue}
use Rattle.backend_trait.specs.declared.answer.Polled.{Polled}
use Rattle.plain_store.specs.Meaning.{store_of}
use Rattle.store_cases.specs.Judging.{IsRight}
use Rattle.store_cases.proofs.judge.is_right.Goals as goal

pub returns-in-Answered : goal.returns-in-Answered
returns-in-Answered c =
    subst (λ (p : Polled). IfOk c.is_answer.result (λ (is : Bool). IsTrue is ↔ IsRight (store_of c.args.store.now) c.args.s.number p)) (sym c.in-Answered.is) c.is_answer.ensures

pub returns-in-NotYet : goal.returns-in-NotYet
returns-in-NotYet c =
    subst (λ (p : Polled). IfOk c.is_wait.result (λ (is : Bool). IsTrue is ↔ IsRight (store_of c.args.store.now) c.args.s.number p)) (sym c.in-NotYet.is) c.is_wait.ensures
