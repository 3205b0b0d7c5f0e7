-- What a step did.
use Rattle.std.specs.Prelude.{◌≡◌, List}
use Rattle.pool_base.specs.declared.session_id.SessionId.{SessionId}
use Rattle.schema.specs.declared.catalogue.TableDef.{TableDef}
use Rattle.session_machine.specs.declared.action.SessionEvent.{SessionEvent}
use Rattle.session_machine.specs.declared.machine.GatePhase.TheVariants.{Out}
use Rattle.session_machine.specs.declared.machine.Machine.{Machine}
use Rattle.session_machine.specs.declared.machine.Point.TheVariants.{Resting}
use Rattle.session_machine.specs.declared.machine.ReadPolicy.{ReadPolicy}
use Rattle.session_machine.specs.declared.status.Status.TheVariants.{Idle}
use Rattle.session_machine.specs.Rules.{new_machine}
use Rattle.session_seat.specs.declared.book.Journal.{Journal}
use Rattle.session_seat.specs.declared.step.Step.{Step}
use Rattle.session_seat.specs.declared.step.Step.TheVariants as step
use Rattle.session_seat.specs.Told.{added, told_of}
use Rattle.session_seat.specs.Shared.{Shared}
use Rattle.session_seat.specs.Schedule.{Moves}

-- an event took place
abbrev pub IsDid : Step → Type 0
IsDid (step.Did mark) = Unit {0}
IsDid step.Waits = ⊥
IsDid step.Idle = ⊥
IsDid step.Closed = ⊥
IsDid (step.Recovers moment number) = ⊥

-- a session is in no block, has no transaction, and nothing is due of it
abbrev pub IsOutside : Machine → Type 0
IsOutside m = (m.point ≡ Resting) × ((m.session.status ≡ Idle) × (m.session.gate ≡ Out))

-- where what is shared and the machine of a session stand, and what the journal has
pub record Stand : Type 0 where
  pub shared : Shared
  pub machine : Machine
  pub journal : Journal

abbrev pub at : Shared → Machine → Journal → Stand
at shared machine journal = record { shared = shared; machine = machine; journal = journal }

-- one event of session s took place, where it may, and the journal tells of it
pub record TookPlace (tables : List TableDef) (s : SessionId) (old new : Stand) : Type 0 where
  pub event : SessionEvent
  pub moves : Moves tables s old.shared old.machine event new.shared new.machine
  pub tells : new.journal ≡ added old.journal (told_of tables s event)

-- nothing took place
pub record Stays (old new : Stand) : Type 0 where
  pub shared : new.shared ≡ old.shared
  pub machine : new.machine ≡ old.machine
  pub journal : new.journal ≡ old.journal

-- what a step of session s did: one event took place, or none; a session that is closed has the machine of its start, and one whose
-- client orders a recovery is in no block
abbrev pub IsStep : List TableDef → ReadPolicy → SessionId → Stand → Step → Stand → Type 0
IsStep tables policy s old (step.Did mark) new = TookPlace tables s old new
IsStep tables policy s old step.Waits new = Stays old new
IsStep tables policy s old step.Idle new = Stays old new
IsStep tables policy s old step.Closed new = Stays old new × (new.machine ≡ new_machine s policy)
IsStep tables policy s old (step.Recovers moment number) new = Stays old new × IsOutside old.machine
