-- The rules of a recovery: what is due, and where each event leads.
use Rattle.std.specs.Prelude.{ℕ, zero, suc, length, true, false, ◌&&◌, if◌then◌else◌, List, Option, Some, None}
use Rattle.pool_base.specs.Sets.{has}
use Rattle.pool_base.specs.declared.backend_id.BackendId.{BackendId}
use Rattle.pool_base.specs.declared.code.Code.{Code}
use Rattle.pool_base.specs.declared.gate_call.View.{View}
use Rattle.pool_base.specs.declared.gate_call.GateCall.TheVariants as calls
use Rattle.pool_base.specs.declared.gate_call.GateAnswer.{GateAnswer}
use Rattle.pool_base.specs.declared.gate_call.GateAnswer.TheVariants.{Seen, Granted, Held as IsHeld, Spent}
use Rattle.sql_eval.specs.declared.row.Row.{Row}
use Rattle.schema.specs.declared.catalogue.TableDef.{TableDef}
use Rattle.backend_trait.specs.declared.request.Request.{Request}
use Rattle.backend_trait.specs.declared.request.Request.TheVariants as requests
use Rattle.backend_trait.specs.declared.answer.Answer.{Answer}
use Rattle.backend_trait.specs.declared.answer.Answer.TheVariants as answers
use Rattle.session_orders.specs.declared.order.OrderBody.{OrderBody}
use Rattle.session_orders.specs.declared.order.OrderBody.TheVariants as orders
use Rattle.session_orders.specs.declared.outcome.Outcome.{Outcome}
use Rattle.session_machine.specs.declared.status.Status.TheVariants.{Idle}
use Rattle.session_machine.specs.declared.action.Cause.TheVariants.{Fault}
use Rattle.session_machine.specs.Codes.{counts_spent, no_backend}
use Rattle.session_machine.specs.Answers.{lowest}
use Rattle.session_machine.specs.Rules.{refusal_of}
use Rattle.online_recovery.specs.declared.action.RecoveryAction.{RecoveryAction}
use Rattle.online_recovery.specs.declared.action.RecoveryAction.TheVariants as actions
use Rattle.session_machine.specs.declared.action.SessionEvent.{SessionEvent}
use Rattle.session_machine.specs.declared.action.SessionEvent.TheVariants as events
use Rattle.online_recovery.specs.declared.standing.Quiet.TheVariants.{Open, Copying, Asked, Entered}
use Rattle.online_recovery.specs.declared.standing.GateStanding.{GateStanding}
use Rattle.online_recovery.specs.declared.standing.GateStanding.TheVariants.{Out, InSnapshot, Live}
use Rattle.online_recovery.specs.declared.standing.Side.{Side}
use Rattle.online_recovery.specs.declared.standing.Side.TheVariants.{Source, Target}
use Rattle.online_recovery.specs.declared.standing.Task.{Task}
use Rattle.online_recovery.specs.declared.standing.Task.TheVariants.{OpeningSource, OpeningTarget, Reading, Emptying, Filling, Committing, Leaving, OpeningNumbers, ReadingSerial, LockingSerial, SettingSerial, ClosingNumbers}
use Rattle.online_recovery.specs.declared.standing.Ending.{Ending}
use Rattle.online_recovery.specs.declared.standing.Ending.TheVariants.{Attached, Refused, Leaves}
use Rattle.online_recovery.specs.declared.standing.Owed.{Owed}
use Rattle.online_recovery.specs.declared.standing.Owed.TheVariants.{Transaction, Snapshot, LiveTransaction, TheQuiet, Nothing}
use Rattle.online_recovery.specs.declared.standing.Due.{Due}
use Rattle.online_recovery.specs.declared.standing.Due.TheVariants.{Resting, LookDue, StartDue, SwapDue, EnterDue, PostDue, Waiting, ShowDue, LeaveSnapshotDue, FinishDue, AskDue, QuietDue, AttachDue, LostDue, Closing, Undoing}
use Rattle.online_recovery.specs.declared.standing.Held.{Held}
use Rattle.online_recovery.specs.declared.standing.Standing.{Standing}
use Rattle.online_recovery.specs.Codes.{cannot_recover, under_way, lost_on_the_way}
use Rattle.online_recovery.specs.State.{new_standing, configured, is_shown, backend_at, side_of, next_table, next_serial, owed, outcome_of}
use Rattle.online_recovery.specs.Copies.{all_rows_in, no_rows_in, row_into, row_in}

-- What is asked of a backend, and what is due.

-- a number is set under the lock of its table, as each number is drawn: so the target has a transaction of its own for the numbers
abbrev pub request_of : List TableDef → Task → Request
request_of tables OpeningSource = requests.TakeSnapshot
request_of tables OpeningTarget = requests.TakeSnapshot
request_of tables (Reading table) = requests.Run (all_rows_in tables table)
request_of tables (Emptying table rows) = requests.Run (no_rows_in table)
request_of tables (Filling table rows left) = requests.Run (row_into tables table (row_in rows left))
request_of tables Committing = requests.Commit
request_of tables Leaving = requests.Rollback
request_of tables OpeningNumbers = requests.TakeSnapshot
request_of tables (ReadingSerial table) = requests.ReadSerial table
request_of tables (LockingSerial table n) = requests.Lock table
request_of tables (SettingSerial table n) = requests.SetSerial table n
request_of tables ClosingNumbers = requests.Commit

-- at the end: the reply, or the end of the session
abbrev pub last_action : Option Outcome → RecoveryAction
last_action None = actions.End
last_action (Some outcome) = actions.Reply outcome Idle

-- before it what is still to be given back
abbrev pub closing_action : Held → Ending → Owed → RecoveryAction
closing_action held ending (Transaction side) = actions.Post (backend_at held side) requests.Rollback
closing_action held ending Snapshot = actions.Gate calls.LeaveSnapshot
closing_action held ending LiveTransaction = actions.Gate calls.Finish
closing_action held ending TheQuiet = actions.Gate calls.LeaveQuiet
closing_action held ending Nothing = last_action (outcome_of ending)

abbrev pub action_at : Held → Due → RecoveryAction
action_at held Resting = actions.Rest
action_at held (LookDue number) = actions.Gate calls.Look
action_at held StartDue = actions.Gate calls.StartCopy
action_at held SwapDue = actions.Swap held.target
action_at held EnterDue = actions.Gate calls.EnterSnapshot
action_at held (PostDue task) = actions.Post (backend_at held (side_of task)) (request_of held.layout.tables task)
action_at held (Waiting task) = actions.WaitFor (backend_at held (side_of task))
action_at held (ShowDue task answer) = actions.Gate calls.Look
action_at held LeaveSnapshotDue = actions.Gate calls.LeaveSnapshot
action_at held FinishDue = actions.Gate calls.Finish
action_at held AskDue = actions.Gate calls.AskQuiet
action_at held QuietDue = actions.Gate calls.EnterQuiet
action_at held AttachDue = actions.Gate (calls.Attach held.target)
action_at held (LostDue ending before after) = actions.Detach held.source (Fault before after)
action_at held (Closing ending) = closing_action held ending (owed held)
action_at held (Undoing side ending) = actions.WaitFor (backend_at held side)

abbrev pub next_action : Standing → RecoveryAction
next_action s = action_at s.held s.due

-- Small steps.

-- a new view; the transaction at a source that it does not show counts no more
abbrev pub with_view : Held → View → Held
with_view held view = record held { view = view; at_source = held.at_source && has view.attached.bits held.source.number }

abbrev pub due : Held → Due → Standing
due held at = record { held = held; due = at }

abbrev pub refused : Held → Code → Standing
refused held code = due held (Closing (Refused code))

-- Orders: PGPOOL RECOVER begins, and a client that leaves takes the way of every end; a lost source is detached first.

abbrev pub left : Held → Due → Standing
left held (LostDue ending before after) = due held (LostDue Leaves before after)
left held Resting = due held (Closing Leaves)
left held (LookDue number) = due held (Closing Leaves)
left held StartDue = due held (Closing Leaves)
left held SwapDue = due held (Closing Leaves)
left held EnterDue = due held (Closing Leaves)
left held (PostDue task) = due held (Closing Leaves)
left held (Waiting task) = due held (Closing Leaves)
left held (ShowDue task answer) = due held (Closing Leaves)
left held LeaveSnapshotDue = due held (Closing Leaves)
left held FinishDue = due held (Closing Leaves)
left held AskDue = due held (Closing Leaves)
left held QuietDue = due held (Closing Leaves)
left held AttachDue = due held (Closing Leaves)
left held (Closing ending) = due held (Closing Leaves)
left held (Undoing side ending) = due held (Closing Leaves)

-- a recovery takes no other order
abbrev pub ordered : Held → Due → OrderBody → Standing
ordered held at (orders.Recover number) = due held (LookDue number)
ordered held at orders.Leave = left held at
ordered held at (orders.Statement work) = due held at
ordered held at orders.Begin = due held at
ordered held at orders.Commit = due held at
ordered held at orders.Rollback = due held at
ordered held at orders.Settle = due held at
ordered held at orders.ShowNodes = due held at
ordered held at (orders.Refuse code name) = due held at

-- The first Look: a configured backend that is not attached can be recovered, where one is attached.

abbrev pub numbered : Held → Option BackendId → Standing
numbered held None = refused held cannot_recover
numbered held (Some b) = if is_shown held b then refused held cannot_recover else due (record held { target = b }) StartDue

abbrev pub looked : Held → ℕ → Option BackendId → Standing
looked held number None = refused held no_backend
looked held number (Some primary) = numbered held (configured held.layout.nodes number)

-- The copy starts. The target may have come in since that Look.

abbrev pub copy_started : Held → Standing
copy_started held = if is_shown held held.target then refused held cannot_recover else due held SwapDue

-- A stage begins: its source is the lowest attached backend.

abbrev pub snapshot_entered : Held → Option BackendId → Standing
snapshot_entered held None = refused held no_backend
snapshot_entered held (Some b) = due (record held { source = b }) (PostDue OpeningSource)

-- the tables' serial numbers, one after another; behind the last one their transaction commits
abbrev pub serial_due : Held → Option ℕ → Standing
serial_due held None = due held (PostDue ClosingNumbers)
serial_due held (Some table) = due held (PostDue (ReadingSerial table))

-- they are set in a transaction of their own at the target; where no table has a serial column, the target is attached
abbrev pub numbers_due : Held → Option ℕ → Standing
numbers_due held None = due held AttachDue
numbers_due held (Some table) = due held (PostDue OpeningNumbers)

-- stage two opens no transaction of a copy where no table was touched
abbrev pub copied_again : Held → Option ℕ → Standing
copied_again held None = numbers_due held (next_serial held None)
copied_again held (Some table) = due held (PostDue OpeningSource)

abbrev pub quiet_entered : Held → Option BackendId → Standing
quiet_entered held None = refused held no_backend
quiet_entered held (Some b) = copied_again (record held { source = b }) (next_table held None)

-- What an answer leads to.

-- in stage one the snapshot is left before the target's transaction begins
abbrev pub source_opened : Held → GateStanding → Standing
source_opened held InSnapshot = due held LeaveSnapshotDue
source_opened held Live = due held (PostDue OpeningTarget)
source_opened held Out = due held (PostDue OpeningTarget)

-- the tables, one after another; behind the last one the target's transaction commits
abbrev pub table_due : Held → Option ℕ → Standing
table_due held None = due held (PostDue Committing)
table_due held (Some table) = due held (PostDue (Reading table))

-- such a read is answered by rows or a refusal, by the form of answers: none of the others comes
abbrev pub rows_read : Held → ℕ → Answer → Standing
rows_read held table (answers.Rows rows) = due held (PostDue (Emptying table rows))
rows_read held table answers.Began = refused held lost_on_the_way
rows_read held table (answers.Count n) = refused held lost_on_the_way
rows_read held table answers.Locked = refused held lost_on_the_way
rows_read held table answers.Done = refused held lost_on_the_way
rows_read held table (answers.Serial n) = refused held lost_on_the_way
rows_read held table (answers.Refused code) = refused held code

-- the rows that are to come, one after another: so many are left
abbrev pub filled : Held → ℕ → List Row → ℕ → Standing
filled held table rows zero = table_due held (next_table held (Some table))
filled held table rows (suc left) = due held (PostDue (Filling table rows left))

-- stage one ends at the gate, stage two with the serial numbers
abbrev pub source_left : Held → GateStanding → Standing
source_left held Live = due held FinishDue
source_left held InSnapshot = numbers_due held (next_serial held None)
source_left held Out = numbers_due held (next_serial held None)

-- such a read is answered by a number, by the form of answers: none of the others comes
abbrev pub serial_read : Held → ℕ → Answer → Standing
serial_read held table (answers.Serial n) = due held (PostDue (LockingSerial table n))
serial_read held table answers.Began = refused held lost_on_the_way
serial_read held table (answers.Rows rows) = refused held lost_on_the_way
serial_read held table (answers.Count n) = refused held lost_on_the_way
serial_read held table answers.Locked = refused held lost_on_the_way
serial_read held table answers.Done = refused held lost_on_the_way
serial_read held table (answers.Refused code) = refused held code

abbrev pub proceeded : Held → Task → Answer → Standing
proceeded held OpeningSource answer = source_opened held held.gate
proceeded held OpeningTarget answer = table_due held (next_table held None)
proceeded held (Reading table) answer = rows_read held table answer
proceeded held (Emptying table rows) answer = filled held table rows (length rows)
proceeded held (Filling table rows left) answer = filled held table rows left
proceeded held Committing answer = due held (PostDue Leaving)
proceeded held Leaving answer = source_left held held.gate
proceeded held OpeningNumbers answer = serial_due held (next_serial held None)
proceeded held (ReadingSerial table) answer = serial_read held table answer
proceeded held (LockingSerial table n) answer = due held (PostDue (SettingSerial table n))
proceeded held (SettingSerial table n) answer = serial_due held (next_serial held (Some table))
proceeded held ClosingNumbers answer = due held AttachDue

-- a refused request ends the recovery with its code
abbrev pub answered : Held → Task → Answer → Option Code → Standing
answered held task answer None = proceeded held task answer
answered held task answer (Some code) = refused held code

-- Behind an answer of the source there is a Look; one that shows the source no more ends the recovery.

unfoldable pub shown : Held → Task → Answer → Standing
shown held task answer = if is_shown held held.source then answered held task answer (refusal_of answer) else refused held lost_on_the_way

-- an answer begins or ends a transaction; a refused beginning leaves a dead one
abbrev pub heard : Held → Task → Held
heard held OpeningSource = record held { at_source = true }
heard held OpeningTarget = record held { at_target = true }
heard held Committing = record held { at_target = false }
heard held Leaving = record held { at_source = false }
heard held OpeningNumbers = record held { at_target = true }
heard held ClosingNumbers = record held { at_target = false }
heard held (Reading table) = held
heard held (Emptying table rows) = held
heard held (Filling table rows left) = held
heard held (ReadingSerial table) = held
heard held (LockingSerial table n) = held
heard held (SettingSerial table n) = held

abbrev pub taken_at : Held → Task → Answer → Side → Standing
taken_at held task answer Source = due held (ShowDue task answer)
taken_at held task answer Target = answered held task answer (refusal_of answer)

-- a transaction is over, by its rollback or with its backend
abbrev pub over : Held → Side → Held
over held Source = record held { at_source = false }
over held Target = record held { at_target = false }

unfoldable pub taken : Held → Due → Answer → Standing
taken held (Waiting task) answer = taken_at (heard held task) task answer (side_of task)
taken held (Undoing side ending) answer = due (over held side) (Closing ending)
taken held at answer = due held at

-- A lost source is detached with its counts; a lost target is not attached. Either ends the recovery; a loss at its end
-- leaves the ending as it is.

abbrev pub lost_at : Held → Side → Ending → ℕ → ℕ → Standing
lost_at held Source ending before after = due (over held Source) (LostDue ending before after)
lost_at held Target ending before after = due (over held Target) (Closing ending)

abbrev pub faulted : Held → Due → ℕ → ℕ → Standing
faulted held (Waiting task) before after = lost_at held (side_of task) (Refused lost_on_the_way) before after
faulted held (Undoing side ending) before after = lost_at held side ending before after
faulted held at before after = due held at

abbrev pub detached_at : Held → Due → Standing
detached_at held (LostDue ending before after) = due held (Closing ending)
detached_at held at = due held at

abbrev pub detached : Held → Due → GateAnswer → Standing
detached held at (Seen view) = detached_at (with_view held view) at
detached held at (Granted view) = detached_at (with_view held view) at
detached held at (IsHeld count) = due held at
detached held at Spent = due held at

-- Calls of the gate.

-- what the end gives back at the gate
abbrev pub given_back : Held → Owed → Held
given_back held (Transaction side) = held
given_back held Snapshot = record held { gate = Live }
given_back held LiveTransaction = record held { gate = Out }
given_back held TheQuiet = record held { quiet = Open }
given_back held Nothing = held

-- a call that was seen or granted, by what was due; the recovery has the view already
unfoldable pub granted : Held → Due → Standing
granted held (LookDue number) = looked held number (lowest held.view.attached.bits)
granted held StartDue = copy_started (record held { quiet = Copying })
granted held EnterDue = snapshot_entered (record held { gate = InSnapshot }) (lowest held.view.attached.bits)
granted held (ShowDue task answer) = shown held task answer
granted held LeaveSnapshotDue = due (record held { gate = Live }) (PostDue OpeningTarget)
granted held FinishDue = due (record held { gate = Out }) AskDue
granted held AskDue = due (record held { quiet = Asked }) QuietDue
granted held QuietDue = quiet_entered (record held { quiet = Entered; touched = held.view.touched }) (lowest held.view.attached.bits)
granted held AttachDue = due held (Closing Attached)
granted held (Closing ending) = due (given_back held (owed held)) (Closing ending)
granted held Resting = due held Resting
granted held SwapDue = due held SwapDue
granted held (PostDue task) = due held (PostDue task)
granted held (Waiting task) = due held (Waiting task)
granted held (LostDue ending before after) = due held (LostDue ending before after)
granted held (Undoing side ending) = due held (Undoing side ending)

-- StartCopy that is held is not tried again
abbrev pub held_off : Held → Due → Standing
held_off held StartDue = refused held under_way
held_off held at = due held at

unfoldable pub called : Held → Due → GateAnswer → Standing
called held at (Seen view) = granted (with_view held view) at
called held at (Granted view) = granted (with_view held view) at
called held at (IsHeld count) = held_off held at
called held at Spent = refused held counts_spent

-- Swaps and posts.

abbrev pub swapped : Held → Due → Standing
swapped held SwapDue = due held EnterDue
swapped held at = due held at

abbrev pub undone : Held → Ending → Owed → Standing
undone held ending (Transaction side) = due held (Undoing side ending)
undone held ending Snapshot = due held (Closing ending)
undone held ending LiveTransaction = due held (Closing ending)
undone held ending TheQuiet = due held (Closing ending)
undone held ending Nothing = due held (Closing ending)

abbrev pub posted : Held → Due → Standing
posted held (PostDue task) = due held (Waiting task)
posted held (Closing ending) = undone held ending (owed held)
posted held at = due held at

-- Where an event leads. Behind a reply and an end the recovery is as at its start.

unfoldable pub after_at : Held → Due → SessionEvent → Standing
after_at held at (events.Ordered order) = ordered held at order.body
after_at held at (events.Called call answer) = called held at answer
after_at held at (events.Swapped b) = swapped held at
after_at held at (events.Posted b ask) = posted held at
after_at held at (events.Taken b answer) = taken held at answer
after_at held at (events.Faulted b before after) = faulted held at before after
after_at held at (events.Detached b cause answer) = detached held at answer
after_at held at (events.Replied outcome status) = new_standing held.id held.layout
after_at held at events.Ended = new_standing held.id held.layout

abbrev pub after : Standing → SessionEvent → Standing
after s event = after_at s.held s.due event
