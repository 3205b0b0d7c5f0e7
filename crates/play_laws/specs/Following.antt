-- A play and the replicated world beside it: the events of what takes place, and how the two stand between two entries.
use Rattle.std.specs.Prelude.{◌≡◌, ℕ, List, [], ◌∷◌, None}
use Rattle.pool_base.specs.declared.backend_set.BackendSet.{BackendSet}
use Rattle.pool_base.specs.declared.session_id.SessionId.{SessionId}
use Rattle.schema.specs.declared.catalogue.TableDef.{TableDef}
use Rattle.session_machine.specs.declared.action.SessionEvent.{SessionEvent}
use Rattle.session_machine.specs.declared.action.SessionEvent.TheVariants as events
use Rattle.session_machine.specs.declared.machine.ReadPolicy.{ReadPolicy}
use Rattle.session_engine.specs.Tidying.{tidied}
use Rattle.session_seat.specs.Told as told
use Rattle.session_seat.specs.Schedule.{State}
use Rattle.one_copy_model.specs.declared.event.Event.{Event}
use Rattle.one_copy_model.specs.declared.event.Event.TheVariants.{Of, Act, Lost}
use Rattle.one_copy_model.specs.World.{World}
use Rattle.world_program.specs.declared.replaying.Start.{Start}
use Rattle.play_laws.specs.Unmarked.{unmarked}

-- the world before a play of these tables, where these backends are attached
abbrev pub started : List TableDef → ReadPolicy → BackendSet → Start
started tables policy attached = record { catalogue = tables; policy = policy; attached = attached }

-- an event of a session is one of the world; an answer that is taken is two: the backend acts, and the session takes it
abbrev pub event_before : SessionId → SessionEvent → List Event → List Event
event_before s (events.Taken b answer) rest = Act s b answer ∷ (Of s (events.Taken b answer) ∷ rest)
event_before s event rest = Of s event ∷ rest

abbrev pub put_before : told.Entry → List Event → List Event
put_before (told.Of s event) rest = event_before s event rest
put_before (told.Loses b) rest = Lost b ∷ rest

abbrev pub events_of : List told.Entry → List Event
events_of [] = []
events_of (entry ∷ entries) = put_before entry (events_of entries)

-- between two entries the world stands as the play does: the same gate, machines that are alike, stores that differ in marks alone, and
-- no answer that was not taken
pub record Follows (tables : List TableDef) (old : State) (w : World) : Type 0 where
  pub catalogue : w.tables ≡ tables
  pub gate : w.gate ≡ old.shared.gate
  pub machines : (s : SessionId) → tidied (w.machine s.number) ≡ tidied (old.machines s)
  pub stores : (b : ℕ) → unmarked (w.store b) ≡ old.shared.stores b
  pub mail : (s b : ℕ) → w.mail s b ≡ None
