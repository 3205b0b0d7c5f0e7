use Rattle.std.proofs.Common.{◌∙◌, sym, inr}
use Rattle.std.proofs.lemmas.Bool.{false≢true}
use Rattle.session_seat.proofs.step.hand_out.Goals as goal

pub returns-then-not-is_outside-clause-stopped : goal.returns-then-not-is_outside-clause-stopped
returns-then-not-is_outside-clause-stopped c = λ same. inr (λ out. absurd (false≢true (sym c.if-not-is_outside.true ∙ c.is_outside.ensures.1 out)))
