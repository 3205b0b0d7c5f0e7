use Rattle.std.proofs.Common.{◌≡◌, ◌∙◌, ℕ, ap, refl, sym, subst, w64, rules}
use Rattle.std.proofs.lemmas.Int.{to_z-of_z}
use Rattle.std.specs.Prelude.{ℤ, ◌⊎◌, Option, IfErr}
use Rattle.session_engine.specs.declared.session.Core.{Core}
use Rattle.session_engine.specs.Cores.{machine_in}
use Rattle.session_wire.specs.Shown.{shown}
use Rattle.session_seat.specs.declared.fault.StepFault.TheVariants.{Stopped}
use Rattle.session_seat.specs.Stops.{IsFull, IsGarbled, StopsOrdered}
use Rattle.session_seat.specs.Speech.{recovering}
use Rattle.session_seat.proofs.SpeechLemmas.{recovery_order}
use Rattle.session_seat.proofs.step.obey.Goals as goal

pub returns-in-None-clause-stopped : goal.returns-in-None-clause-stopped
returns-in-None-clause-stopped c =
    subst (λ (o : Option ℕ). IfErr c.accept.result (λ e. e ≡ Stopped → IsFull c.args.book.now.events ⊎ (IsGarbled (shown c.args.seat.now.wire).output
    ⊎ StopsOrdered c.args.setting.tables.now (machine_in c.args.seat.now.core) c.args.order.body o)))
    (sym c.in-None.is ∙ c.recovery_in.ensures) c.accept.ensures.stopped

pub returns-in_ok-hand_out-in-Some-clause-ordered : goal.returns-in_ok-hand_out-in-Some-clause-ordered
returns-in_ok-hand_out-in-Some-clause-ordered c = λ shared. (
  record { shared = refl; machine = ap (λ (core : Core). machine_in core) c.hand_out.ensures.core; journal = c.hand_out.ensures.journal },
  c.in_ok-hand_out-in-Some.ensures.outside,
  recovery_order c.args.order c.in-Some.number (sym c.recovery_in.ensures ∙ c.in-Some.is)
      ∙ ap (λ (m : ℤ). recovering m c.in-Some.number) (sym (to_z-of_z w64 c.args.order.moment (search rules))),
)
