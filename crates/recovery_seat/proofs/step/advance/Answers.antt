use Rattle.std.proofs.Common.{◌≡◌, ◌∙◌, sym}
use Rattle.online_recovery.specs.Asking.{standing_in}
use Rattle.online_recovery.specs.Rules.{next_action}
use Rattle.online_recovery.specs.declared.ask.RecoveryAsk.TheVariants as asks
use Rattle.recovery_seat.proofs.DueLemmas.{asks_rest, not_ok}
use Rattle.recovery_seat.proofs.step.advance.Goals as goal

pub returns-in-Gate-clause-busy : goal.returns-in-Gate-clause-busy
returns-in-Gate-clause-busy g c = λ rests.
    let never : asks.Gate c.in-Gate.call ≡ asks.Rest = asks_rest (asks.Gate c.in-Gate.call) (next_action (standing_in c.args.recovery.now)) (sym c.in-Gate.is ∙ c.asks.ensures.is) rests in not_ok c.call_gate.result (absurd (cc))

pub returns-in-Swap-clause-busy : goal.returns-in-Swap-clause-busy
returns-in-Swap-clause-busy g c = λ rests.
    let never : asks.Swap c.in-Swap.b ≡ asks.Rest = asks_rest (asks.Swap c.in-Swap.b) (next_action (standing_in c.args.recovery.now)) (sym c.in-Swap.is ∙ c.asks.ensures.is) rests in not_ok c.swap.result (absurd (cc))

pub returns-in-Post-clause-busy : goal.returns-in-Post-clause-busy
returns-in-Post-clause-busy g c = λ rests.
    let never : asks.Post c.in-Post.b ≡ asks.Rest = asks_rest (asks.Post c.in-Post.b) (next_action (standing_in c.args.recovery.now)) (sym c.in-Post.is ∙ c.asks.ensures.is) rests in not_ok c.post.result (absurd (cc))

pub returns-in-WaitFor-clause-busy : goal.returns-in-WaitFor-clause-busy
returns-in-WaitFor-clause-busy g c = λ rests.
    let never : asks.WaitFor c.in-WaitFor.b ≡ asks.Rest = asks_rest (asks.WaitFor c.in-WaitFor.b) (next_action (standing_in c.args.recovery.now)) (sym c.in-WaitFor.is ∙ c.asks.ensures.is) rests in not_ok c.hear.result (absurd (cc))

pub returns-in-Detach-clause-busy : goal.returns-in-Detach-clause-busy
returns-in-Detach-clause-busy g c = λ rests.
    let never : asks.Detach c.in-Detach.b ≡ asks.Rest = asks_rest (asks.Detach c.in-Detach.b) (next_action (standing_in c.args.recovery.now)) (sym c.in-Detach.is ∙ c.asks.ensures.is) rests in not_ok c.detach.result (absurd (cc))
