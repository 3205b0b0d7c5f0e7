use Rattle.std.proofs.Common.{◌≡◌, true, false, sym, ◌∙◌, inl, inr}
use Rattle.model_store.specs.declared.verdict.Verdict.TheVariants as verdicts
use Rattle.model_store.specs.Seats.{store_of}
use Rattle.model_store.proofs.VerdictLaws.{decided_by}
use Rattle.model_store.proofs.verdict.decide.Goals as goal

pub returns-in-Goes : goal.returns-in-Goes
returns-in-Goes c = λ numbers tables given.
    decided_by (store_of numbers tables c.args.log.now c.args.seats.now false) c.args.at _ c.verdict_on.result verdicts.Goes verdicts.Goes c.in-Goes.is (λ r h. h) (c.verdict_on.ensures numbers tables given)

pub returns-in-Refused : goal.returns-in-Refused
returns-in-Refused c = λ numbers tables given.
    decided_by (store_of numbers tables c.args.log.now c.args.seats.now false) c.args.at _ c.verdict_on.result (verdicts.Refused c.in-Refused.code) (verdicts.Refused c.in-Refused.code) c.in-Refused.is
    (λ r h. inl h) (c.verdict_on.ensures numbers tables given)

pub returns-then-is_in_cycle : goal.returns-then-is_in_cycle
returns-then-is_in_cycle c = λ numbers tables given.
    decided_by (store_of numbers tables c.args.log.now c.args.seats.now false) c.args.at _ c.verdict_on.result verdicts.Waits (verdicts.Refused c.deadlock.result) c.in-Waits.is
    (λ r h. inr (c.deadlock.ensures, h, (c.is_in_cycle.ensures numbers tables given).0 c.if-is_in_cycle.true)) (c.verdict_on.ensures numbers tables given)

pub returns-else-is_in_cycle : goal.returns-else-is_in_cycle
returns-else-is_in_cycle c = λ numbers tables given.
    decided_by (store_of numbers tables c.args.log.now c.args.seats.now false) c.args.at _ c.verdict_on.result verdicts.Waits verdicts.Waits c.in-Waits.is
    (λ r h. (h, λ cycle. let f : true ≡ false = sym ((c.is_in_cycle.ensures numbers tables given).1 cycle) ∙ c.if-is_in_cycle.false in cc)) (c.verdict_on.ensures numbers tables given)
