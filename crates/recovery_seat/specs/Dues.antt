-- Which step a session takes that has no recovery under way.
use Rattle.std.specs.Prelude.{◌≡◌, ℤ, Bool, List, Some}
use Rattle.schema.specs.declared.catalogue.TableDef.{TableDef}
use Rattle.pgproto.specs.declared.line.Mark.TheVariants as marks
use Rattle.backend_trait.specs.Store.{Store}
use Rattle.snapshot_gate.specs.declared.state.GateState.{GateState}
use Rattle.session_seat.specs.declared.seat.Seat.{Seat}
use Rattle.session_seat.specs.declared.step.Step.{Step}
use Rattle.session_seat.specs.declared.step.Step.TheVariants as step
use Rattle.session_seat.specs.Dues.{IsDue}

-- the order of a recovery, which a session hands out, takes place
abbrev pub taken_as : Step → Step
taken_as (step.Did mark) = step.Did mark
taken_as step.Waits = step.Waits
taken_as step.Idle = step.Idle
taken_as step.Closed = step.Closed
taken_as (step.Recovers moment number) = step.Did (Some marks.Order)

-- the step is the one that is due of the session
abbrev pub IsOwn : {X : Type 0} → (X → Store) → (X → Bool) → List TableDef → ℤ → Seat → GateState → List X → Step → Type 0
IsOwn {X} meaning is_prompt tables moment seat gate shelf did =
    (own : Step) × IsDue meaning is_prompt tables moment seat gate shelf own × (did ≡ taken_as own)
