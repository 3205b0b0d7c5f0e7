-- From the Swap to the Attach the target of a recovery is not attached.
use Rattle.std.proofs.Common.{◌≡◌, ℕ, zero, suc, length, Bool, true, false, List, Some, None, refl, sym, subst, ◌∙◌}
use Rattle.std.specs.Prelude.{Option, if◌then◌else◌}
use Rattle.pool_base.specs.Sets.{has}
use Rattle.pool_base.specs.declared.backend_id.BackendId.{BackendId}
use Rattle.pool_base.specs.declared.code.Code.{Code}
use Rattle.pool_base.specs.declared.gate_call.GateCall.TheVariants as calls
use Rattle.pool_base.specs.declared.gate_call.GateAnswer.{GateAnswer}
use Rattle.pool_base.specs.declared.gate_call.GateAnswer.TheVariants.{Seen, Granted, Held as IsHeld, Spent}
use Rattle.sql_eval.specs.declared.row.Row.{Row}
use Rattle.backend_trait.specs.declared.answer.Answer.{Answer}
use Rattle.backend_trait.specs.declared.answer.Answer.TheVariants as answers
use Rattle.session_orders.specs.declared.order.OrderBody.{OrderBody}
use Rattle.session_orders.specs.declared.order.OrderBody.TheVariants as orders
use Rattle.session_machine.specs.Answers.{lowest}
use Rattle.session_machine.specs.Rules.{refusal_of}
use Rattle.online_recovery.specs.declared.action.RecoveryAction.TheVariants as actions
use Rattle.session_machine.specs.declared.action.SessionEvent.{SessionEvent}
use Rattle.session_machine.specs.declared.action.SessionEvent.TheVariants as events
use Rattle.online_recovery.specs.declared.standing.Quiet.TheVariants.{Copying, Entered}
use Rattle.online_recovery.specs.declared.standing.GateStanding.{GateStanding}
use Rattle.online_recovery.specs.declared.standing.GateStanding.TheVariants.{Out, InSnapshot, Live}
use Rattle.online_recovery.specs.declared.standing.Side.{Side}
use Rattle.online_recovery.specs.declared.standing.Side.TheVariants.{Source, Target}
use Rattle.online_recovery.specs.declared.standing.Task.{Task}
use Rattle.online_recovery.specs.declared.standing.Task.TheVariants.{OpeningSource, OpeningTarget, Reading, Emptying, Filling, Committing, Leaving, OpeningNumbers, ReadingSerial, LockingSerial, SettingSerial, ClosingNumbers}
use Rattle.online_recovery.specs.declared.standing.Ending.{Ending}
use Rattle.online_recovery.specs.declared.standing.Ending.TheVariants.{Attached, Refused, Leaves}
use Rattle.online_recovery.specs.declared.standing.Owed.{Owed}
use Rattle.online_recovery.specs.declared.standing.Owed.TheVariants.{Transaction, Snapshot, LiveTransaction, TheQuiet, Nothing}
use Rattle.online_recovery.specs.declared.standing.Due.{Due}
use Rattle.online_recovery.specs.declared.standing.Due.TheVariants.{Resting, LookDue, StartDue, SwapDue, EnterDue, PostDue, Waiting, ShowDue, LeaveSnapshotDue, FinishDue, AskDue, QuietDue, AttachDue, LostDue, Closing, Undoing}
use Rattle.online_recovery.specs.declared.standing.Held.{Held}
use Rattle.online_recovery.specs.declared.standing.Standing.{Standing}
use Rattle.online_recovery.specs.Codes.{cannot_recover, lost_on_the_way}
use Rattle.online_recovery.specs.State.{configured, is_shown, side_of, next_table, next_serial, owed}
use Rattle.online_recovery.specs.Rules.{closing_action, action_at, next_action, with_view, due, refused, left, ordered, numbered, looked, copy_started, snapshot_entered, serial_due, numbers_due, copied_again, quiet_entered, source_opened, table_due, rows_read, filled, source_left, serial_read, proceeded, answered, shown, heard, taken_at, taken, lost_at, faulted, detached_at, detached, granted, held_off, called, swapped, undone, posted, after_at, after}
use Rattle.online_recovery.specs.Allowed.{answers_call}

-- the target is not among these from the Swap on until it is attached; behind that, and before, nothing is said
abbrev pub IsFree : ℕ → BackendId → Due → Type 0
IsFree n target Resting = Unit {0}
IsFree n target (LookDue number) = Unit {0}
IsFree n target StartDue = Unit {0}
IsFree n target SwapDue = has n target.number ≡ false
IsFree n target EnterDue = has n target.number ≡ false
IsFree n target (PostDue task) = has n target.number ≡ false
IsFree n target (Waiting task) = has n target.number ≡ false
IsFree n target (ShowDue task answer) = has n target.number ≡ false
IsFree n target LeaveSnapshotDue = has n target.number ≡ false
IsFree n target FinishDue = has n target.number ≡ false
IsFree n target AskDue = has n target.number ≡ false
IsFree n target QuietDue = has n target.number ≡ false
IsFree n target AttachDue = has n target.number ≡ false
IsFree n target (LostDue ending before count) = Unit {0}
IsFree n target (Closing ending) = Unit {0}
IsFree n target (Undoing side ending) = Unit {0}

abbrev pub Frees : ℕ → Standing → Type 0
Frees n r = IsFree n r.held.target r.due

abbrev IsTarget : ℕ → Held → Type 0
IsTarget n held = has n held.target.number ≡ false

either : (t : Bool) (n : ℕ) (x y : Standing) → Frees n x → Frees n y → Frees n (if t then x else y)
either true n x y a b = a
either false n x y a b = b

-- The first Look, the copy's start, the beginnings of the two stages.

numbered_frees : (n : ℕ) (held : Held) (b : Option BackendId) → Frees n (numbered held b)
numbered_frees n held None = tt
numbered_frees n held (Some b) = either (is_shown held b) n (refused held cannot_recover) (due (record held { target = b }) StartDue) tt tt

looked_frees : (n : ℕ) (held : Held) (number : ℕ) (b : Option BackendId) → Frees n (looked held number b)
looked_frees n held number None = tt
looked_frees n held number (Some b) = numbered_frees n held (configured held.layout.nodes number)

-- the view of the grant shows that the target is not among them
started_frees : (n : ℕ) (held : Held) → held.view.attached.bits ≡ n → Frees n (copy_started held)
started_frees n held shows = by (is_shown held held.target) refl
  where
    by : (v : Bool) → is_shown held held.target ≡ v → Frees n (if v then refused held cannot_recover else due held SwapDue)
    by true e = tt
    by false e = subst (λ k. has k held.target.number ≡ false) shows e

snapshot_frees : (n : ℕ) (held : Held) (b : Option BackendId) → IsTarget n held → Frees n (snapshot_entered held b)
snapshot_frees n held None a = tt
snapshot_frees n held (Some b) a = a

serial_frees : (n : ℕ) (held : Held) (table : Option ℕ) → IsTarget n held → Frees n (serial_due held table)
serial_frees n held None a = a
serial_frees n held (Some table) a = a

numbers_frees : (n : ℕ) (held : Held) (table : Option ℕ) → IsTarget n held → Frees n (numbers_due held table)
numbers_frees n held None a = a
numbers_frees n held (Some table) a = a

again_frees : (n : ℕ) (held : Held) (table : Option ℕ) → IsTarget n held → Frees n (copied_again held table)
again_frees n held None a = numbers_frees n held (next_serial held None) a
again_frees n held (Some table) a = a

quiet_frees : (n : ℕ) (held : Held) (b : Option BackendId) → IsTarget n held → Frees n (quiet_entered held b)
quiet_frees n held None a = tt
quiet_frees n held (Some b) a = again_frees n (record held { source = b }) (next_table (record held { source = b }) None) a

-- Answers.

opened_frees : (n : ℕ) (held : Held) (gate : GateStanding) → IsTarget n held → Frees n (source_opened held gate)
opened_frees n held InSnapshot a = a
opened_frees n held Live a = a
opened_frees n held Out a = a

table_frees : (n : ℕ) (held : Held) (table : Option ℕ) → IsTarget n held → Frees n (table_due held table)
table_frees n held None a = a
table_frees n held (Some table) a = a

rows_frees : (n : ℕ) (held : Held) (table : ℕ) (answer : Answer) → IsTarget n held → Frees n (rows_read held table answer)
rows_frees n held table (answers.Rows rows) a = a
rows_frees n held table answers.Began a = tt
rows_frees n held table (answers.Count count) a = tt
rows_frees n held table answers.Locked a = tt
rows_frees n held table answers.Done a = tt
rows_frees n held table (answers.Serial next) a = tt
rows_frees n held table (answers.Refused code) a = tt

filled_frees : (n : ℕ) (held : Held) (table : ℕ) (rows : List Row) (left : ℕ) → IsTarget n held → Frees n (filled held table rows left)
filled_frees n held table rows zero a = table_frees n held (next_table held (Some table)) a
filled_frees n held table rows (suc left) a = a

ended_frees : (n : ℕ) (held : Held) (gate : GateStanding) → IsTarget n held → Frees n (source_left held gate)
ended_frees n held Live a = a
ended_frees n held InSnapshot a = numbers_frees n held (next_serial held None) a
ended_frees n held Out a = numbers_frees n held (next_serial held None) a

number_frees : (n : ℕ) (held : Held) (table : ℕ) (answer : Answer) → IsTarget n held → Frees n (serial_read held table answer)
number_frees n held table (answers.Serial next) a = a
number_frees n held table answers.Began a = tt
number_frees n held table (answers.Rows rows) a = tt
number_frees n held table (answers.Count count) a = tt
number_frees n held table answers.Locked a = tt
number_frees n held table answers.Done a = tt
number_frees n held table (answers.Refused code) a = tt

proceeded_frees : (n : ℕ) (held : Held) (task : Task) (answer : Answer) → IsTarget n held → Frees n (proceeded held task answer)
proceeded_frees n held OpeningSource answer a = opened_frees n held held.gate a
proceeded_frees n held OpeningTarget answer a = table_frees n held (next_table held None) a
proceeded_frees n held (Reading table) answer a = rows_frees n held table answer a
proceeded_frees n held (Emptying table rows) answer a = filled_frees n held table rows (length rows) a
proceeded_frees n held (Filling table rows left) answer a = filled_frees n held table rows left a
proceeded_frees n held Committing answer a = a
proceeded_frees n held Leaving answer a = ended_frees n held held.gate a
proceeded_frees n held (ReadingSerial table) answer a = number_frees n held table answer a
proceeded_frees n held OpeningNumbers answer a = serial_frees n held (next_serial held None) a
proceeded_frees n held (LockingSerial table next) answer a = a
proceeded_frees n held (SettingSerial table next) answer a = serial_frees n held (next_serial held (Some table)) a
proceeded_frees n held ClosingNumbers answer a = a

answered_frees : (n : ℕ) (held : Held) (task : Task) (answer : Answer) (code : Option Code) → IsTarget n held → Frees n (answered held task answer code)
answered_frees n held task answer None a = proceeded_frees n held task answer a
answered_frees n held task answer (Some code) a = tt

shown_frees : (n : ℕ) (held : Held) (task : Task) (answer : Answer) → IsTarget n held → Frees n (shown held task answer)
unfolding shown
shown_frees n held task answer a =
    either (is_shown held held.source) n (answered held task answer (refusal_of answer)) (refused held lost_on_the_way)
    (answered_frees n held task answer (refusal_of answer) a) tt

heard_frees : (n : ℕ) (held : Held) (task : Task) → IsTarget n held → IsTarget n (heard held task)
heard_frees n held OpeningSource a = a
heard_frees n held OpeningTarget a = a
heard_frees n held Committing a = a
heard_frees n held Leaving a = a
heard_frees n held (Reading table) a = a
heard_frees n held (Emptying table rows) a = a
heard_frees n held (Filling table rows left) a = a
heard_frees n held OpeningNumbers a = a
heard_frees n held (LockingSerial table next) a = a
heard_frees n held ClosingNumbers a = a
heard_frees n held (ReadingSerial table) a = a
heard_frees n held (SettingSerial table next) a = a

taken_at_frees : (n : ℕ) (held : Held) (task : Task) (answer : Answer) (side : Side) → IsTarget n held → Frees n (taken_at held task answer side)
taken_at_frees n held task answer Source a = a
taken_at_frees n held task answer Target a = answered_frees n held task answer (refusal_of answer) a

taken_frees : (n : ℕ) (held : Held) (at : Due) (answer : Answer) → IsFree n held.target at → Frees n (taken held at answer)
unfolding taken
taken_frees n held (Waiting task) answer a = taken_at_frees n (heard held task) task answer (side_of task) (heard_frees n held task a)
taken_frees n held (Undoing side ending) answer a = tt
taken_frees n held at answer a = a

-- Losses, detachments, swaps, posts, orders.

lost_frees : (n : ℕ) (held : Held) (side : Side) (ending : Ending) (before count : ℕ) → Frees n (lost_at held side ending before count)
lost_frees n held Source ending before count = tt
lost_frees n held Target ending before count = tt

faulted_frees : (n : ℕ) (held : Held) (at : Due) (before count : ℕ) → IsFree n held.target at → Frees n (faulted held at before count)
faulted_frees n held (Waiting task) before count a = lost_frees n held (side_of task) (Refused lost_on_the_way) before count
faulted_frees n held (Undoing side ending) before count a = lost_frees n held side ending before count
faulted_frees n held at before count a = a

parted_frees : (n : ℕ) (held : Held) (at : Due) → IsFree n held.target at → Frees n (detached_at held at)
parted_frees n held (LostDue ending before count) a = tt
parted_frees n held at a = a

detached_frees : (n : ℕ) (held : Held) (at : Due) (answer : GateAnswer) → IsFree n held.target at → Frees n (detached held at answer)
detached_frees n held at (Seen view) a = parted_frees n (with_view held view) at a
detached_frees n held at (Granted view) a = parted_frees n (with_view held view) at a
detached_frees n held at (IsHeld count) a = a
detached_frees n held at Spent a = a

swapped_frees : (n : ℕ) (held : Held) (at : Due) → IsFree n held.target at → Frees n (swapped held at)
swapped_frees n held SwapDue a = a
swapped_frees n held at a = a

undone_frees : (n : ℕ) (held : Held) (ending : Ending) (o : Owed) → Frees n (undone held ending o)
undone_frees n held ending (Transaction side) = tt
undone_frees n held ending Snapshot = tt
undone_frees n held ending LiveTransaction = tt
undone_frees n held ending TheQuiet = tt
undone_frees n held ending Nothing = tt

posted_frees : (n : ℕ) (held : Held) (at : Due) → IsFree n held.target at → Frees n (posted held at)
posted_frees n held (PostDue task) a = a
posted_frees n held (Closing ending) a = undone_frees n held ending (owed held)
posted_frees n held at a = a

left_frees : (n : ℕ) (held : Held) (at : Due) → Frees n (left held at)
left_frees n held (LostDue ending before count) = tt
left_frees n held at = tt

ordered_frees : (n : ℕ) (held : Held) (at : Due) (body : OrderBody) → IsFree n held.target at → Frees n (ordered held at body)
ordered_frees n held at (orders.Recover number) a = tt
ordered_frees n held at orders.Leave a = left_frees n held at
ordered_frees n held at body a = a

-- Calls of the gate.

granted_frees : (n : ℕ) (held : Held) (at : Due) → held.view.attached.bits ≡ n → IsFree n held.target at → Frees n (granted held at)
unfolding granted
granted_frees n held (LookDue number) shows a = looked_frees n held number (lowest held.view.attached.bits)
granted_frees n held StartDue shows a = started_frees n (record held { quiet = Copying }) shows
granted_frees n held EnterDue shows a = snapshot_frees n (record held { gate = InSnapshot }) (lowest held.view.attached.bits) a
granted_frees n held (ShowDue task answer) shows a = shown_frees n held task answer a
granted_frees n held QuietDue shows a = quiet_frees n (record held { quiet = Entered; touched = held.view.touched }) (lowest held.view.attached.bits) a
granted_frees n held AttachDue shows a = tt
granted_frees n held (Closing ending) shows a = tt
granted_frees n held at shows a = a

held_off_frees : (n : ℕ) (held : Held) (at : Due) → IsFree n held.target at → Frees n (held_off held at)
held_off_frees n held StartDue a = tt
held_off_frees n held at a = a

-- the view that an answer has
abbrev pub Shows : GateAnswer → ℕ → Type 0
Shows (Seen view) n = view.attached.bits ≡ n
Shows (Granted view) n = view.attached.bits ≡ n
Shows (IsHeld count) n = Unit {0}
Shows Spent n = Unit {0}

called_frees : (n : ℕ) (held : Held) (at : Due) (answer : GateAnswer) → Shows answer n → IsFree n held.target at → Frees n (called held at answer)
unfolding called
called_frees n held at (Seen view) shows a = granted_frees n (with_view held view) at shows a
called_frees n held at (Granted view) shows a = granted_frees n (with_view held view) at shows a
called_frees n held at (IsHeld count) shows a = held_off_frees n held at a
called_frees n held at Spent shows a = tt

abbrev pub ShowsIn : SessionEvent → ℕ → Type 0
ShowsIn (events.Called call answer) n = Shows answer n
ShowsIn event n = Unit {0}

pub stays_free : (n : ℕ) (r : Standing) (event : SessionEvent) → ShowsIn event n → Frees n r → Frees n (after r event)
unfolding after_at
stays_free n r (events.Ordered order) shows a = ordered_frees n r.held r.due order.body a
stays_free n r (events.Called call answer) shows a = called_frees n r.held r.due answer shows a
stays_free n r (events.Swapped b) shows a = swapped_frees n r.held r.due a
stays_free n r (events.Posted b request) shows a = posted_frees n r.held r.due a
stays_free n r (events.Taken b answer) shows a = taken_frees n r.held r.due answer a
stays_free n r (events.Faulted b before count) shows a = faulted_frees n r.held r.due before count a
stays_free n r (events.Detached b cause answer) shows a = detached_frees n r.held r.due answer a
stays_free n r (events.Replied outcome status) shows a = tt
stays_free n r events.Ended shows a = tt

-- behind an Attach it is at its end

attach_due : (held : Held) (ending : Ending) (o : Owed) (b : BackendId) → closing_action held ending o ≡ actions.Gate (calls.Attach b) → ⊥
attach_due held ending (Transaction side) b e = absurd (cc)
attach_due held ending Snapshot b e = absurd (cc)
attach_due held ending LiveTransaction b e = absurd (cc)
attach_due held ending TheQuiet b e = absurd (cc)
attach_due held Attached Nothing b e = absurd (cc)
attach_due held (Refused code) Nothing b e = absurd (cc)
attach_due held Leaves Nothing b e = absurd (cc)

at_due : (n : ℕ) (held : Held) (at : Due) (b : BackendId) (answer : GateAnswer) → action_at held at ≡ actions.Gate (calls.Attach b) → answers_call (calls.Attach b) answer ≡ true → Frees n (called held at answer)
unfolding called granted
at_due n held AttachDue b (Seen view) e may = tt
at_due n held AttachDue b (Granted view) e may = tt
at_due n held AttachDue b (IsHeld count) e may = absurd (let z : false ≡ true = may in cc)
at_due n held AttachDue b Spent e may = tt
at_due n held (Closing ending) b answer e may = absurd (attach_due held ending (owed held) b e)
at_due n held at b answer e may = absurd (cc)

pub attached_free : (n : ℕ) (r : Standing) (b : BackendId) (answer : GateAnswer) → next_action r ≡ actions.Gate (calls.Attach b) → answers_call (calls.Attach b) answer ≡ true
    → Frees n (after r (events.Called (calls.Attach b) answer))
unfolding after_at
attached_free n r b answer e may = at_due n r.held r.due b answer e may

-- where fewer are attached it is not among them either
module _ (n more : ℕ) (less : (k : ℕ) → has n k ≡ true → has more k ≡ true) where
  out_of : (k : ℕ) → has more k ≡ false → has n k ≡ false
  out_of k gone = by (has n k) refl
    where
      by : (v : Bool) → has n k ≡ v → v ≡ false
      by true e = absurd (let z : true ≡ false = sym (less k e) ∙ gone in cc)
      by false e = refl

  fewer_free : (target : BackendId) (at : Due) → IsFree more target at → IsFree n target at
  fewer_free target Resting a = tt
  fewer_free target (LookDue number) a = tt
  fewer_free target StartDue a = tt
  fewer_free target SwapDue a = out_of target.number a
  fewer_free target EnterDue a = out_of target.number a
  fewer_free target (PostDue task) a = out_of target.number a
  fewer_free target (Waiting task) a = out_of target.number a
  fewer_free target (ShowDue task answer) a = out_of target.number a
  fewer_free target LeaveSnapshotDue a = out_of target.number a
  fewer_free target FinishDue a = out_of target.number a
  fewer_free target AskDue a = out_of target.number a
  fewer_free target QuietDue a = out_of target.number a
  fewer_free target AttachDue a = out_of target.number a
  fewer_free target (LostDue ending before count) a = tt
  fewer_free target (Closing ending) a = tt
  fewer_free target (Undoing side ending) a = tt

  pub fewer_frees : (r : Standing) → Frees more r → Frees n r
  fewer_frees r a = fewer_free r.held.target r.due a
