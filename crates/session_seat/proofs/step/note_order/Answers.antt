use Rattle.std.proofs.Common.{◌∙◌, sym, inl, inr}
use Rattle.std.proofs.lemmas.Bool.{false≢true}
use Rattle.session_seat.proofs.step.note_order.Goals as goal

pub returns-then-not-may_order-clause-stopped : goal.returns-then-not-may_order-clause-stopped
returns-then-not-may_order-clause-stopped c = λ same. inr (inr (inl (λ takes. absurd (false≢true (sym c.if-not-may_order.true ∙ c.may_order.ensures.1 takes)))))

pub returns-then-not-is_ready-clause-stopped : goal.returns-then-not-is_ready-clause-stopped
returns-then-not-is_ready-clause-stopped c = λ same. inr (inr (inr (λ ready. absurd (false≢true (sym c.if-not-is_ready.true ∙ c.is_ready.ensures.1 ready)))))
