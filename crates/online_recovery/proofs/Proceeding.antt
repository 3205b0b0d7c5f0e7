-- Looks, answers, losses, swaps, posts and orders keep that a recovery fits what is due of it.
use Rattle.std.proofs.Common.{◌≡◌, ℕ, zero, suc, length, Bool, true, false, List, Some, None, inl, inr, refl}
use Rattle.std.specs.Prelude.{Option}
use Rattle.pool_base.specs.declared.backend_id.BackendId.{BackendId}
use Rattle.pool_base.specs.declared.code.Code.{Code}
use Rattle.pool_base.specs.declared.gate_call.GateAnswer.{GateAnswer}
use Rattle.pool_base.specs.declared.gate_call.GateAnswer.TheVariants.{Seen, Granted, Held as IsHeld, Spent}
use Rattle.sql_eval.specs.declared.row.Row.{Row}
use Rattle.backend_trait.specs.declared.answer.Answer.{Answer}
use Rattle.backend_trait.specs.declared.answer.Answer.TheVariants as answers
use Rattle.session_orders.specs.declared.order.OrderBody.{OrderBody}
use Rattle.session_orders.specs.declared.order.OrderBody.TheVariants as orders
use Rattle.session_machine.specs.Rules.{refusal_of}
use Rattle.online_recovery.specs.declared.standing.Quiet.TheVariants.{Open, Copying, Entered}
use Rattle.online_recovery.specs.declared.standing.GateStanding.{GateStanding}
use Rattle.online_recovery.specs.declared.standing.GateStanding.TheVariants.{Out, InSnapshot, Live}
use Rattle.online_recovery.specs.declared.standing.Side.{Side}
use Rattle.online_recovery.specs.declared.standing.Side.TheVariants.{Source, Target}
use Rattle.online_recovery.specs.declared.standing.Task.{Task}
use Rattle.online_recovery.specs.declared.standing.Task.TheVariants.{OpeningSource, OpeningTarget, Reading, Emptying, Filling, Committing, Leaving, OpeningNumbers, ReadingSerial, LockingSerial, SettingSerial, ClosingNumbers}
use Rattle.online_recovery.specs.declared.standing.Ending.{Ending}
use Rattle.online_recovery.specs.declared.standing.Ending.TheVariants.{Attached, Refused, Leaves}
use Rattle.online_recovery.specs.declared.standing.Owed.{Owed}
use Rattle.online_recovery.specs.declared.standing.Owed.TheVariants.{Transaction, Snapshot, LiveTransaction, TheQuiet, Nothing}
use Rattle.online_recovery.specs.declared.standing.Due.{Due}
use Rattle.online_recovery.specs.declared.standing.Due.TheVariants.{Resting, LookDue, SwapDue, PostDue, Waiting, LostDue, Closing, Undoing}
use Rattle.online_recovery.specs.declared.standing.Held.{Held}
use Rattle.online_recovery.specs.State.{configured, is_shown, side_of, next_table, next_serial, owed}
use Rattle.online_recovery.specs.Rules.{due, left, ordered, numbered, looked, copy_started, snapshot_entered, serial_due, numbers_due, copied_again, quiet_entered, source_opened, table_due, rows_read, filled, source_left, serial_read, proceeded, answered, shown, heard, taken_at, over, taken, lost_at, faulted, detached_at, detached, with_view, swapped, undone, posted}
use Rattle.online_recovery.specs.Allowed.{is_resting, may_leave_end, may_leave, may_order}
use Rattle.online_recovery.specs.Runs.{Phase, attached_ordered}
use Rattle.online_recovery.proofs.Fitting.{Agrees, First, Fits, FitsTask, Good, IsIn, Middle, either, ended, ends_attached, is_attached}

-- The first Look, the copy's start, the beginnings of the two stages.

numbered_good : (p : Phase) (held : Held) (b : Option BackendId) → Agrees p held → IsIn Out Open p → Good p false (numbered held b)
numbered_good p held None a f = ended p held _ a
numbered_good p held (Some b) a f =
    either (is_shown held b) p false _ _ (ended p held _ a) (record { gate = a.0; quiet = a.1; fits = f; told = refl })

pub looked_good : (p : Phase) (held : Held) (number : ℕ) (b : Option BackendId) → Agrees p held → IsIn Out Open p → Good p false (looked held number b)
looked_good p held number None a f = ended p held _ a
looked_good p held number (Some b) a f = numbered_good p held (configured held.layout.nodes number) a f

pub started_good : (p : Phase) (held : Held) → Agrees p held → IsIn Out Copying p → Good p false (copy_started held)
started_good p held a f =
    either (is_shown held held.target) p false _ _ (ended p held _ a) (record { gate = a.0; quiet = a.1; fits = f; told = refl })

pub snapshot_good : (p : Phase) (held : Held) (b : Option BackendId) → Agrees p held → First p → Good p false (snapshot_entered held b)
snapshot_good p held None a f = ended p held _ a
snapshot_good p held (Some b) a f = record { gate = a.0; quiet = a.1; fits = f; told = refl }

serial_good : (p : Phase) (held : Held) (table : Option ℕ) → Agrees p held → IsIn Out Entered p → Good p false (serial_due held table)
serial_good p held None a f = record { gate = a.0; quiet = a.1; fits = f; told = refl }
serial_good p held (Some table) a f = record { gate = a.0; quiet = a.1; fits = f; told = refl }

numbers_good : (p : Phase) (held : Held) (table : Option ℕ) → Agrees p held → IsIn Out Entered p → Good p false (numbers_due held table)
numbers_good p held None a f = record { gate = a.0; quiet = a.1; fits = f; told = refl }
numbers_good p held (Some table) a f = record { gate = a.0; quiet = a.1; fits = f; told = refl }

again_good : (p : Phase) (held : Held) (table : Option ℕ) → Agrees p held → IsIn Out Entered p → Good p false (copied_again held table)
again_good p held None a f = numbers_good p held (next_serial held None) a f
again_good p held (Some table) a f = record { gate = a.0; quiet = a.1; fits = inr f; told = refl }

pub quiet_good : (p : Phase) (held : Held) (b : Option BackendId) → Agrees p held → IsIn Out Entered p → Good p false (quiet_entered held b)
quiet_good p held None a f = ended p held _ a
quiet_good p held (Some b) a f = again_good p (record held { source = b }) (next_table (record held { source = b }) None) a f

-- Answers.

opened_good : (p : Phase) (held : Held) (gate : GateStanding) → Agrees p held → p.gate ≡ gate → First p → Good p false (source_opened held gate)
opened_good p held InSnapshot a e (inl f) = record { gate = a.0; quiet = a.1; fits = f; told = refl }
opened_good p held InSnapshot a e (inr f) = let g = f.0 in absurd (cc)
opened_good p held Live a e (inl f) = let g = f.0 in absurd (cc)
opened_good p held Live a e (inr f) = record { gate = a.0; quiet = a.1; fits = inr f; told = refl }
opened_good p held Out a e (inl f) = let g = f.0 in absurd (cc)
opened_good p held Out a e (inr f) = record { gate = a.0; quiet = a.1; fits = inr f; told = refl }

table_good : (p : Phase) (held : Held) (table : Option ℕ) → Agrees p held → Middle p → Good p false (table_due held table)
table_good p held None a f = record { gate = a.0; quiet = a.1; fits = f; told = refl }
table_good p held (Some table) a f = record { gate = a.0; quiet = a.1; fits = f; told = refl }

read_good : (p : Phase) (held : Held) (table : ℕ) (answer : Answer) → Agrees p held → Middle p → Good p false (rows_read held table answer)
read_good p held table (answers.Rows rows) a f = record { gate = a.0; quiet = a.1; fits = f; told = refl }
read_good p held table answers.Began a f = ended p held _ a
read_good p held table (answers.Count n) a f = ended p held _ a
read_good p held table answers.Locked a f = ended p held _ a
read_good p held table answers.Done a f = ended p held _ a
read_good p held table (answers.Serial n) a f = ended p held _ a
read_good p held table (answers.Refused code) a f = ended p held _ a

filled_good : (p : Phase) (held : Held) (table : ℕ) (rows : List Row) (left : ℕ) → Agrees p held → Middle p → Good p false (filled held table rows left)
filled_good p held table rows zero a f = table_good p held (next_table held (Some table)) a f
filled_good p held table rows (suc left) a f = record { gate = a.0; quiet = a.1; fits = f; told = refl }

left_good : (p : Phase) (held : Held) (gate : GateStanding) → Agrees p held → p.gate ≡ gate → Middle p → Good p false (source_left held gate)
left_good p held Live a e (inl f) = record { gate = a.0; quiet = a.1; fits = f; told = refl }
left_good p held Live a e (inr f) = let g = f.0 in absurd (cc)
left_good p held InSnapshot a e (inl f) = let g = f.0 in absurd (cc)
left_good p held InSnapshot a e (inr f) = numbers_good p held (next_serial held None) a f
left_good p held Out a e (inl f) = let g = f.0 in absurd (cc)
left_good p held Out a e (inr f) = numbers_good p held (next_serial held None) a f

number_good : (p : Phase) (held : Held) (table : ℕ) (answer : Answer) → Agrees p held → IsIn Out Entered p → Good p false (serial_read held table answer)
number_good p held table (answers.Serial n) a f = record { gate = a.0; quiet = a.1; fits = f; told = refl }
number_good p held table answers.Began a f = ended p held _ a
number_good p held table (answers.Rows rows) a f = ended p held _ a
number_good p held table (answers.Count n) a f = ended p held _ a
number_good p held table answers.Locked a f = ended p held _ a
number_good p held table answers.Done a f = ended p held _ a
number_good p held table (answers.Refused code) a f = ended p held _ a

proceeded_good : (p : Phase) (held : Held) (task : Task) (answer : Answer) → Agrees p held → FitsTask task p → Good p false (proceeded held task answer)
proceeded_good p held OpeningSource answer a f = opened_good p held held.gate a a.0 f
proceeded_good p held OpeningTarget answer a f = table_good p held (next_table held None) a f
proceeded_good p held (Reading table) answer a f = read_good p held table answer a f
proceeded_good p held (Emptying table rows) answer a f = filled_good p held table rows (length rows) a f
proceeded_good p held (Filling table rows left) answer a f = filled_good p held table rows left a f
proceeded_good p held Committing answer a f = record { gate = a.0; quiet = a.1; fits = f; told = refl }
proceeded_good p held Leaving answer a f = left_good p held held.gate a a.0 f
proceeded_good p held (ReadingSerial table) answer a f = number_good p held table answer a f
proceeded_good p held OpeningNumbers answer a f = serial_good p held (next_serial held None) a f
proceeded_good p held (LockingSerial table n) answer a f = record { gate = a.0; quiet = a.1; fits = f; told = refl }
proceeded_good p held (SettingSerial table n) answer a f = serial_good p held (next_serial held (Some table)) a f
proceeded_good p held ClosingNumbers answer a f = record { gate = a.0; quiet = a.1; fits = f; told = refl }

answered_good : (p : Phase) (held : Held) (task : Task) (answer : Answer) (code : Option Code) → Agrees p held → FitsTask task p → Good p false (answered held task answer code)
answered_good p held task answer None a f = proceeded_good p held task answer a f
answered_good p held task answer (Some code) a f = ended p held code a

pub shown_good : (p : Phase) (held : Held) (task : Task) (answer : Answer) → Agrees p held → FitsTask task p → Good p false (shown held task answer)
unfolding shown
shown_good p held task answer a f =
    either (is_shown held held.source) p false _ _ (answered_good p held task answer (refusal_of answer) a f) (ended p held _ a)

heard_agrees : (p : Phase) (held : Held) (task : Task) → Agrees p held → Agrees p (heard held task)
heard_agrees p held OpeningSource a = a
heard_agrees p held OpeningTarget a = a
heard_agrees p held Committing a = a
heard_agrees p held Leaving a = a
heard_agrees p held (Reading table) a = a
heard_agrees p held (Emptying table rows) a = a
heard_agrees p held (Filling table rows left) a = a
heard_agrees p held OpeningNumbers a = a
heard_agrees p held (LockingSerial table n) a = a
heard_agrees p held ClosingNumbers a = a
heard_agrees p held (ReadingSerial table) a = a
heard_agrees p held (SettingSerial table n) a = a

taken_at_good : (p : Phase) (held : Held) (task : Task) (answer : Answer) (side : Side) → Agrees p held → FitsTask task p → Good p false (taken_at held task answer side)
taken_at_good p held task answer Source a f = record { gate = a.0; quiet = a.1; fits = f; told = refl }
taken_at_good p held task answer Target a f = answered_good p held task answer (refusal_of answer) a f

over_agrees : (p : Phase) (held : Held) (side : Side) → Agrees p held → Agrees p (over held side)
over_agrees p held Source a = a
over_agrees p held Target a = a

closed : (p : Phase) (held : Held) (ending : Ending) → Agrees p held → Good p (ends_attached ending) (due held (Closing ending))
closed p held ending a = record { gate = a.0; quiet = a.1; fits = tt; told = refl }

pub taken_good : (p : Phase) (held : Held) (at : Due) (answer : Answer) → Agrees p held → Fits at p → Good p (is_attached at) (taken held at answer)
unfolding taken
taken_good p held (Waiting task) answer a f = taken_at_good p (heard held task) task answer (side_of task) (heard_agrees p held task a) f
taken_good p held (Undoing side ending) answer a f = closed p (over held side) ending (over_agrees p held side a)
taken_good p held at answer a f = record { gate = a.0; quiet = a.1; fits = f; told = refl }

-- Losses and detachments.

lost_good : (p : Phase) (held : Held) (side : Side) (ending : Ending) (before count : ℕ) → Agrees p held → Good p (ends_attached ending) (lost_at held side ending before count)
lost_good p held Source ending before count a = record { gate = a.0; quiet = a.1; fits = tt; told = refl }
lost_good p held Target ending before count a = record { gate = a.0; quiet = a.1; fits = tt; told = refl }

pub faulted_good : (p : Phase) (held : Held) (at : Due) (before count : ℕ) → Agrees p held → Fits at p → Good p (is_attached at) (faulted held at before count)
faulted_good p held (Waiting task) before count a f = lost_good p held (side_of task) (Refused _) before count a
faulted_good p held (Undoing side ending) before count a f = lost_good p held side ending before count a
faulted_good p held at before count a f = record { gate = a.0; quiet = a.1; fits = f; told = refl }

parted_good : (p : Phase) (held : Held) (at : Due) → Agrees p held → Fits at p → Good p (is_attached at) (detached_at held at)
parted_good p held (LostDue ending before count) a f = closed p held ending a
parted_good p held at a f = record { gate = a.0; quiet = a.1; fits = f; told = refl }

pub detached_good : (p : Phase) (held : Held) (at : Due) (answer : GateAnswer) → Agrees p held → Fits at p → Good p (is_attached at) (detached held at answer)
detached_good p held at (Seen view) a f = parted_good p (with_view held view) at a f
detached_good p held at (Granted view) a f = parted_good p (with_view held view) at a f
detached_good p held at (IsHeld count) a f = record { gate = a.0; quiet = a.1; fits = f; told = refl }
detached_good p held at Spent a f = record { gate = a.0; quiet = a.1; fits = f; told = refl }

-- Swaps, posts, orders.

pub swapped_good : (p : Phase) (held : Held) (at : Due) → Agrees p held → Fits at p → Good p (is_attached at) (swapped held at)
swapped_good p held SwapDue a f = record { gate = a.0; quiet = a.1; fits = f; told = refl }
swapped_good p held at a f = record { gate = a.0; quiet = a.1; fits = f; told = refl }

undone_good : (p : Phase) (held : Held) (ending : Ending) (o : Owed) → Agrees p held → Good p (ends_attached ending) (undone held ending o)
undone_good p held ending (Transaction side) a = record { gate = a.0; quiet = a.1; fits = tt; told = refl }
undone_good p held ending Snapshot a = closed p held ending a
undone_good p held ending LiveTransaction a = closed p held ending a
undone_good p held ending TheQuiet a = closed p held ending a
undone_good p held ending Nothing a = closed p held ending a

pub posted_good : (p : Phase) (held : Held) (at : Due) → Agrees p held → Fits at p → Good p (is_attached at) (posted held at)
posted_good p held (PostDue task) a f = record { gate = a.0; quiet = a.1; fits = f; told = refl }
posted_good p held (Closing ending) a f = undone_good p held ending (owed held) a
posted_good p held at a f = record { gate = a.0; quiet = a.1; fits = f; told = refl }

-- an order may come at rest alone, and a Leave where the target is not attached
begun_good : (p : Phase) (held : Held) (at : Due) (number : ℕ) → is_resting at ≡ true → Agrees p held → Fits at p → Good p false (due held (LookDue number))
begun_good p held Resting number may a f = record { gate = a.0; quiet = a.1; fits = f; told = refl }
begun_good p held at number may a f = absurd (cc)

not_attached : (ending : Ending) → may_leave_end ending ≡ true → ends_attached ending ≡ false
not_attached Attached may = absurd (cc)
not_attached (Refused code) may = refl
not_attached Leaves may = refl

leaving_good : (p : Phase) (held : Held) (at : Due) (attached : Bool) → attached ≡ false → Agrees p held → Good p attached (due held (Closing Leaves))
leaving_good p held at attached e a = record { gate = a.0; quiet = a.1; fits = tt; told = e }

gone_good : (p : Phase) (held : Held) (at : Due) → may_leave at ≡ true → Agrees p held → Good p (is_attached at) (left held at)
gone_good p held (LostDue ending before count) may a = record { gate = a.0; quiet = a.1; fits = tt; told = not_attached ending may }
gone_good p held (Closing ending) may a = leaving_good p held (Closing ending) _ (not_attached ending may) a
gone_good p held (Undoing side ending) may a = absurd (cc)
gone_good p held at may a = leaving_good p held at _ refl a

pub ordered_good : (p : Phase) (held : Held) (at : Due) (body : OrderBody) → may_order at body ≡ true → Agrees p held → Fits at p
    → Good p (attached_ordered body (is_attached at)) (ordered held at body)
ordered_good p held at (orders.Recover number) may a f = begun_good p held at number may a f
ordered_good p held at orders.Leave may a f = gone_good p held at may a
ordered_good p held at body may a f = absurd (cc)
