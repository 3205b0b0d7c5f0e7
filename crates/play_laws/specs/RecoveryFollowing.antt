-- A play with recoveries and the world with them beside it: the steps of what takes place, and how the two stand between two entries.
use Rattle.std.specs.Prelude.{◌≡◌, ℕ, List, [], ◌∷◌, None}
use Rattle.pool_base.specs.declared.session_id.SessionId.{SessionId}
use Rattle.schema.specs.declared.catalogue.TableDef.{TableDef}
use Rattle.session_machine.specs.declared.action.SessionEvent.{SessionEvent}
use Rattle.session_machine.specs.declared.action.SessionEvent.TheVariants as events
use Rattle.session_engine.specs.Tidying.{tidied}
use Rattle.one_copy_model.specs.declared.event.Event.TheVariants.{Of as OfSession, Act, Lost}
use Rattle.recovery_laws.specs.declared.step.Step.{Step}
use Rattle.recovery_laws.specs.declared.step.Step.TheVariants.{Serve, Recover, Answer as Answers}
use Rattle.recovery_laws.specs.Pool.{Pool, world_of}
use Rattle.recovery_seat.specs.Schedule.{Entry, Of, Recovers, Loses, State}
use Rattle.play_laws.specs.Joined.{IsWhole}

-- an event is one step; an answer that is taken is two: the backend answers, and the session or its recovery takes it
abbrev pub served_before : SessionId → SessionEvent → List Step → List Step
served_before s (events.Taken b answer) rest = Serve (Act s b answer) ∷ (Serve (OfSession s (events.Taken b answer)) ∷ rest)
served_before s event rest = Serve (OfSession s event) ∷ rest

abbrev pub recovered_before : SessionId → SessionEvent → List Step → List Step
recovered_before s (events.Taken b answer) rest = Answers s b answer ∷ (Recover s (events.Taken b answer) ∷ rest)
recovered_before s event rest = Recover s event ∷ rest

abbrev pub put_before : Entry → List Step → List Step
put_before (Of s event) rest = served_before s event rest
put_before (Recovers s event) rest = recovered_before s event rest
put_before (Loses b) rest = Serve (Lost b) ∷ rest

abbrev pub steps_of : List Entry → List Step
steps_of [] = []
steps_of (entry ∷ entries) = put_before entry (steps_of entries)

-- between two entries the world stands as the play does: the same gate, machines that are alike, the same recoveries, stores with what
-- recoveries have and ask there, and no answer that was not taken
pub record Follows (tables : List TableDef) (old : State) (p : Pool) : Type 0 where
  pub catalogue : (world_of p).tables ≡ tables
  pub gate : p.gate ≡ old.shared.gate
  pub machines : (s : SessionId) → tidied ((world_of p).machine s.number) ≡ tidied (old.machines s)
  pub recoveries : (s : SessionId) → p.recovery s.number ≡ old.recoveries s
  pub stores : (b : ℕ) → IsWhole ((world_of p).store b) (λ s. p.transaction s b) (λ s. p.asked s b) (old.shared.stores b)
  pub mail : (s b : ℕ) → (world_of p).mail s b ≡ None
  pub told : (s b : ℕ) → p.told s b ≡ None
