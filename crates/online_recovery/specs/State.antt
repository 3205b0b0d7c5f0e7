-- The words on the state of a recovery: its backends, the tables that a stage copies, what its end has to give back.
use Rattle.std.specs.Prelude.{ℕ, suc, Bool, true, false, ◌&&◌, ◌==◌, nat_lt, is_some, if◌then◌else◌, List, [], ◌∷◌, Option, Some, None, find}
use lib.Dec.{lit<}
use Rattle.pool_base.specs.Sets.{has}
use Rattle.pool_base.specs.declared.session_id.SessionId.{SessionId}
use Rattle.pool_base.specs.declared.backend_id.BackendId.{BackendId}
use Rattle.schema.specs.declared.catalogue.TableDef.{TableDef}
use Rattle.session_orders.specs.declared.outcome.Tag.TheVariants as tags
use Rattle.session_orders.specs.declared.outcome.Outcome.{Outcome}
use Rattle.session_machine.specs.Answers.{all_backends}
use Rattle.session_machine.specs.Rules.{error_of, done_with}
use Rattle.online_recovery.specs.declared.layout.Layout.{Layout}
use Rattle.online_recovery.specs.declared.standing.Quiet.{Quiet}
use Rattle.online_recovery.specs.declared.standing.Quiet.TheVariants.{Open, Copying, Asked, Entered}
use Rattle.online_recovery.specs.declared.standing.GateStanding.{GateStanding}
use Rattle.online_recovery.specs.declared.standing.GateStanding.TheVariants.{Out, InSnapshot, Live}
use Rattle.online_recovery.specs.declared.standing.Side.{Side}
use Rattle.online_recovery.specs.declared.standing.Side.TheVariants.{Source, Target}
use Rattle.online_recovery.specs.declared.standing.Task.{Task}
use Rattle.online_recovery.specs.declared.standing.Task.TheVariants as tasks
use Rattle.online_recovery.specs.declared.standing.Ending.{Ending}
use Rattle.online_recovery.specs.declared.standing.Ending.TheVariants as endings
use Rattle.online_recovery.specs.declared.standing.Owed.{Owed}
use Rattle.online_recovery.specs.declared.standing.Owed.TheVariants.{Transaction, Snapshot, LiveTransaction, TheQuiet, Nothing}
use Rattle.online_recovery.specs.declared.standing.Due.TheVariants.{Resting}
use Rattle.online_recovery.specs.declared.standing.Held.{Held}
use Rattle.online_recovery.specs.declared.standing.Standing.{Standing}

-- A recovery at rest.

abbrev pub no_backend_yet : BackendId
no_backend_yet = record { number = 0; below_8 = lit< tt }

abbrev pub new_held : SessionId → Layout → Held
new_held id layout = record {
  id = id;
  layout = layout;
  view = record { attached = record { bits = 0 }; epoch = 0; touched = 0; done = 0 };
  quiet = Open;
  gate = Out;
  touched = 0;
  source = no_backend_yet;
  at_source = false;
  target = no_backend_yet;
  at_target = false;
}

abbrev pub new_standing : SessionId → Layout → Standing
new_standing id layout = record { held = new_held id layout; due = Resting }

-- Backends.

-- the configured backend of a number
abbrev pub is_numbered : ℕ → BackendId → Bool
is_numbered number b = b.number == number

abbrev pub configured : ℕ → ℕ → Option BackendId
configured nodes number = if nat_lt number nodes then find (is_numbered number) all_backends else None

-- the last view shows a backend
abbrev pub is_shown : Held → BackendId → Bool
is_shown held b = has held.view.attached.bits b.number

abbrev pub backend_at : Held → Side → BackendId
backend_at held Source = held.source
backend_at held Target = held.target

-- the rows and the serial numbers are read at the source; all else is asked of the target
abbrev pub side_of : Task → Side
side_of tasks.OpeningSource = Source
side_of tasks.OpeningTarget = Target
side_of (tasks.Reading table) = Source
side_of (tasks.Emptying table rows) = Target
side_of (tasks.Filling table rows left) = Target
side_of tasks.Committing = Target
side_of tasks.Leaving = Source
side_of tasks.OpeningNumbers = Target
side_of (tasks.ReadingSerial table) = Source
side_of (tasks.LockingSerial table n) = Target
side_of (tasks.SettingSerial table n) = Target
side_of tasks.ClosingNumbers = Target

-- Tables.

abbrev pub is_touched : ℕ → ℕ → Bool
is_touched touched table = nat_lt table 64 && has touched table

-- stage one copies every table, stage two those that were touched
abbrev pub is_copied : Quiet → ℕ → ℕ → Bool
is_copied Open touched table = true
is_copied Copying touched table = true
is_copied Asked touched table = true
is_copied Entered touched table = is_touched touched table

-- behind a table, by number; behind none stand all
abbrev pub is_behind : Option ℕ → ℕ → Bool
is_behind None table = true
is_behind (Some before) table = nat_lt before table

-- the first of these tables, counted from a number on, that stands behind one and is copied
abbrev pub copied_behind : Quiet → ℕ → Option ℕ → ℕ → List TableDef → Option ℕ
copied_behind quiet touched before number [] = None
copied_behind quiet touched before number (table ∷ tables) =
    if is_behind before number && is_copied quiet touched number then Some number
    else copied_behind quiet touched before (suc number) tables

-- the next table that this stage copies: the tables of the catalogue, in their order
abbrev pub next_table : Held → Option ℕ → Option ℕ
next_table held before = copied_behind held.quiet held.touched before 0 held.layout.tables

-- the first of these tables behind one that has a serial column
abbrev pub serial_behind : Option ℕ → ℕ → List TableDef → Option ℕ
serial_behind before number [] = None
serial_behind before number (table ∷ tables) =
    if is_behind before number && is_some table.serial then Some number else serial_behind before (suc number) tables

abbrev pub next_serial : Held → Option ℕ → Option ℕ
next_serial held before = serial_behind before 0 held.layout.tables

-- The end gives back what is held: the transaction at the target, that at the source, and then what the gate counts.

abbrev pub owed_at_gate : GateStanding → Quiet → Owed
owed_at_gate InSnapshot quiet = Snapshot
owed_at_gate Live quiet = LiveTransaction
owed_at_gate Out Open = Nothing
owed_at_gate Out Copying = TheQuiet
owed_at_gate Out Asked = TheQuiet
owed_at_gate Out Entered = TheQuiet

abbrev pub owed : Held → Owed
owed held =
    if held.at_target then Transaction Target
    else if held.at_source then Transaction Source
    else owed_at_gate held.gate held.quiet

-- then the reply, where there is one

abbrev pub outcome_of : Ending → Option Outcome
outcome_of endings.Attached = Some (done_with tags.Recover)
outcome_of (endings.Refused code) = Some (error_of code)
outcome_of endings.Leaves = None
