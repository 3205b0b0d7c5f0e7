-- What a recovery swaps and what it attaches is the backend that its order names.
use Rattle.std.proofs.Common.{◌≡◌, ℕ, zero, suc, length, Bool, true, false, List, [], ◌∷◌, Some, None, refl, sym, ap, subst, ◌∙◌, eqb-true}
use Rattle.std.specs.Prelude.{Option, find, nat_lt, if◌then◌else◌}
use Rattle.pool_base.specs.declared.session_id.SessionId.{SessionId}
use Rattle.pool_base.specs.declared.backend_id.BackendId.{BackendId}
use Rattle.pool_base.specs.declared.code.Code.{Code}
use Rattle.pool_base.specs.declared.gate_call.GateCall.{GateCall}
use Rattle.pool_base.specs.declared.gate_call.GateCall.TheVariants as calls
use Rattle.pool_base.specs.declared.gate_call.GateAnswer.{GateAnswer}
use Rattle.pool_base.specs.declared.gate_call.GateAnswer.TheVariants.{Seen, Granted, Held as IsHeld, Spent}
use Rattle.sql_eval.specs.declared.row.Row.{Row}
use Rattle.backend_trait.specs.declared.answer.Answer.{Answer}
use Rattle.backend_trait.specs.declared.answer.Answer.TheVariants as answers
use Rattle.session_orders.specs.declared.order.OrderBody.{OrderBody}
use Rattle.session_orders.specs.declared.order.OrderBody.TheVariants as orders
use Rattle.session_machine.specs.Answers.{lowest, all_backends}
use Rattle.session_machine.specs.Rules.{refusal_of}
use Rattle.session_machine.proofs.Backends.{found_passes}
use Rattle.online_recovery.specs.declared.action.RecoveryAction.TheVariants as actions
use Rattle.session_machine.specs.declared.action.SessionEvent.{SessionEvent}
use Rattle.session_machine.specs.declared.action.SessionEvent.TheVariants as events
use Rattle.online_recovery.specs.declared.layout.Layout.{Layout}
use Rattle.online_recovery.specs.declared.standing.Quiet.TheVariants.{Copying, Entered}
use Rattle.online_recovery.specs.declared.standing.GateStanding.{GateStanding}
use Rattle.online_recovery.specs.declared.standing.GateStanding.TheVariants.{Out, InSnapshot, Live}
use Rattle.online_recovery.specs.declared.standing.Side.{Side}
use Rattle.online_recovery.specs.declared.standing.Side.TheVariants.{Source, Target}
use Rattle.online_recovery.specs.declared.standing.Task.{Task}
use Rattle.online_recovery.specs.declared.standing.Task.TheVariants.{OpeningSource, OpeningTarget, Reading, Emptying, Filling, Committing, Leaving, OpeningNumbers, ReadingSerial, LockingSerial, SettingSerial, ClosingNumbers}
use Rattle.online_recovery.specs.declared.standing.Ending.{Ending}
use Rattle.online_recovery.specs.declared.standing.Ending.TheVariants.{Attached, Refused, Leaves}
use Rattle.online_recovery.specs.declared.standing.Owed.{Owed}
use Rattle.online_recovery.specs.declared.standing.Owed.TheVariants.{Transaction, Snapshot, LiveTransaction, TheQuiet, Nothing}
use Rattle.online_recovery.specs.declared.standing.Due.{Due}
use Rattle.online_recovery.specs.declared.standing.Due.TheVariants.{Resting, LookDue, StartDue, SwapDue, EnterDue, PostDue, Waiting, ShowDue, LeaveSnapshotDue, FinishDue, AskDue, QuietDue, AttachDue, LostDue, Closing, Undoing}
use Rattle.online_recovery.specs.declared.standing.Held.{Held}
use Rattle.online_recovery.specs.declared.standing.Standing.{Standing}
use Rattle.online_recovery.specs.Codes.{cannot_recover, lost_on_the_way}
use Rattle.online_recovery.specs.State.{new_standing, is_numbered, configured, is_shown, side_of, next_table, next_serial, owed}
use Rattle.online_recovery.specs.Rules.{closing_action, action_at, with_view, due, refused, left, ordered, numbered, looked, copy_started, snapshot_entered, serial_due, numbers_due, copied_again, quiet_entered, source_opened, table_due, rows_read, filled, source_left, serial_read, proceeded, answered, shown, heard, taken_at, taken, lost_at, faulted, detached_at, detached, granted, held_off, called, swapped, undone, posted, after_at, after}
use Rattle.online_recovery.specs.Allowed.{MayHappen}
use Rattle.online_recovery.specs.Runs.{IsRun, named_ordered, named_after, CallIsNamed, IsNamed, AreNamed}
use Rattle.online_recovery.proofs.Calling.{by_call}
use Rattle.online_recovery.proofs.Keeping.{no_swap}

-- the order's backend is looked for, and is the target from then on; at the end none is asked for
abbrev IsAimed : Option ℕ → BackendId → Due → Type 0
IsAimed n target Resting = Unit {0}
IsAimed n target (LookDue number) = n ≡ Some number
IsAimed n target StartDue = n ≡ Some target.number
IsAimed n target SwapDue = n ≡ Some target.number
IsAimed n target EnterDue = n ≡ Some target.number
IsAimed n target (PostDue task) = n ≡ Some target.number
IsAimed n target (Waiting task) = n ≡ Some target.number
IsAimed n target (ShowDue task answer) = n ≡ Some target.number
IsAimed n target LeaveSnapshotDue = n ≡ Some target.number
IsAimed n target FinishDue = n ≡ Some target.number
IsAimed n target AskDue = n ≡ Some target.number
IsAimed n target QuietDue = n ≡ Some target.number
IsAimed n target AttachDue = n ≡ Some target.number
IsAimed n target (LostDue ending before count) = Unit {0}
IsAimed n target (Closing ending) = Unit {0}
IsAimed n target (Undoing side ending) = Unit {0}

abbrev Aims : Option ℕ → Standing → Type 0
Aims n r = IsAimed n r.held.target r.due

abbrev IsTarget : Option ℕ → Held → Type 0
IsTarget n held = n ≡ Some held.target.number

either : (t : Bool) (n : Option ℕ) (x y : Standing) → Aims n x → Aims n y → Aims n (if t then x else y)
either true n x y a b = a
either false n x y a b = b

-- The first Look, the copy's start, the beginnings of the two stages.

-- the backend of a number has it
found : (number : ℕ) (b : BackendId) (t : Bool) → (if t then find (is_numbered number) all_backends else None) ≡ Some b → b.number ≡ number
found number b true e = eqb-true b.number number (found_passes (is_numbered number) all_backends b e)
found number b false e = absurd (cc)

numbered_aims : (n : Option ℕ) (held : Held) (number : ℕ) (b : Option BackendId) → n ≡ Some number → configured held.layout.nodes number ≡ b → Aims n (numbered held b)
numbered_aims n held number None a is = tt
numbered_aims n held number (Some b) a is =
    either (is_shown held b) n (refused held cannot_recover) (due (record held { target = b }) StartDue) tt
    (a ∙ ap (λ (x : ℕ). Some x) (sym (found number b (nat_lt number held.layout.nodes) is)))

looked_aims : (n : Option ℕ) (held : Held) (number : ℕ) (b : Option BackendId) → n ≡ Some number → Aims n (looked held number b)
looked_aims n held number None a = tt
looked_aims n held number (Some b) a = numbered_aims n held number (configured held.layout.nodes number) a refl

started_aims : (n : Option ℕ) (held : Held) → IsTarget n held → Aims n (copy_started held)
started_aims n held a = either (is_shown held held.target) n (refused held cannot_recover) (due held SwapDue) tt a

snapshot_aims : (n : Option ℕ) (held : Held) (b : Option BackendId) → IsTarget n held → Aims n (snapshot_entered held b)
snapshot_aims n held None a = tt
snapshot_aims n held (Some b) a = a

serial_aims : (n : Option ℕ) (held : Held) (table : Option ℕ) → IsTarget n held → Aims n (serial_due held table)
serial_aims n held None a = a
serial_aims n held (Some table) a = a

numbers_aims : (n : Option ℕ) (held : Held) (table : Option ℕ) → IsTarget n held → Aims n (numbers_due held table)
numbers_aims n held None a = a
numbers_aims n held (Some table) a = a

again_aims : (n : Option ℕ) (held : Held) (table : Option ℕ) → IsTarget n held → Aims n (copied_again held table)
again_aims n held None a = numbers_aims n held (next_serial held None) a
again_aims n held (Some table) a = a

quiet_aims : (n : Option ℕ) (held : Held) (b : Option BackendId) → IsTarget n held → Aims n (quiet_entered held b)
quiet_aims n held None a = tt
quiet_aims n held (Some b) a = again_aims n (record held { source = b }) (next_table (record held { source = b }) None) a

-- Answers.

opened_aims : (n : Option ℕ) (held : Held) (gate : GateStanding) → IsTarget n held → Aims n (source_opened held gate)
opened_aims n held InSnapshot a = a
opened_aims n held Live a = a
opened_aims n held Out a = a

table_aims : (n : Option ℕ) (held : Held) (table : Option ℕ) → IsTarget n held → Aims n (table_due held table)
table_aims n held None a = a
table_aims n held (Some table) a = a

rows_aims : (n : Option ℕ) (held : Held) (table : ℕ) (answer : Answer) → IsTarget n held → Aims n (rows_read held table answer)
rows_aims n held table (answers.Rows rows) a = a
rows_aims n held table answers.Began a = tt
rows_aims n held table (answers.Count count) a = tt
rows_aims n held table answers.Locked a = tt
rows_aims n held table answers.Done a = tt
rows_aims n held table (answers.Serial next) a = tt
rows_aims n held table (answers.Refused code) a = tt

filled_aims : (n : Option ℕ) (held : Held) (table : ℕ) (rows : List Row) (left : ℕ) → IsTarget n held → Aims n (filled held table rows left)
filled_aims n held table rows zero a = table_aims n held (next_table held (Some table)) a
filled_aims n held table rows (suc left) a = a

ended_aims : (n : Option ℕ) (held : Held) (gate : GateStanding) → IsTarget n held → Aims n (source_left held gate)
ended_aims n held Live a = a
ended_aims n held InSnapshot a = numbers_aims n held (next_serial held None) a
ended_aims n held Out a = numbers_aims n held (next_serial held None) a

number_aims : (n : Option ℕ) (held : Held) (table : ℕ) (answer : Answer) → IsTarget n held → Aims n (serial_read held table answer)
number_aims n held table (answers.Serial next) a = a
number_aims n held table answers.Began a = tt
number_aims n held table (answers.Rows rows) a = tt
number_aims n held table (answers.Count count) a = tt
number_aims n held table answers.Locked a = tt
number_aims n held table answers.Done a = tt
number_aims n held table (answers.Refused code) a = tt

proceeded_aims : (n : Option ℕ) (held : Held) (task : Task) (answer : Answer) → IsTarget n held → Aims n (proceeded held task answer)
proceeded_aims n held OpeningSource answer a = opened_aims n held held.gate a
proceeded_aims n held OpeningTarget answer a = table_aims n held (next_table held None) a
proceeded_aims n held (Reading table) answer a = rows_aims n held table answer a
proceeded_aims n held (Emptying table rows) answer a = filled_aims n held table rows (length rows) a
proceeded_aims n held (Filling table rows left) answer a = filled_aims n held table rows left a
proceeded_aims n held Committing answer a = a
proceeded_aims n held Leaving answer a = ended_aims n held held.gate a
proceeded_aims n held (ReadingSerial table) answer a = number_aims n held table answer a
proceeded_aims n held OpeningNumbers answer a = serial_aims n held (next_serial held None) a
proceeded_aims n held (LockingSerial table next) answer a = a
proceeded_aims n held (SettingSerial table next) answer a = serial_aims n held (next_serial held (Some table)) a
proceeded_aims n held ClosingNumbers answer a = a

answered_aims : (n : Option ℕ) (held : Held) (task : Task) (answer : Answer) (code : Option Code) → IsTarget n held → Aims n (answered held task answer code)
answered_aims n held task answer None a = proceeded_aims n held task answer a
answered_aims n held task answer (Some code) a = tt

shown_aims : (n : Option ℕ) (held : Held) (task : Task) (answer : Answer) → IsTarget n held → Aims n (shown held task answer)
unfolding shown
shown_aims n held task answer a =
    either (is_shown held held.source) n (answered held task answer (refusal_of answer)) (refused held lost_on_the_way)
    (answered_aims n held task answer (refusal_of answer) a) tt

heard_aims : (n : Option ℕ) (held : Held) (task : Task) → IsTarget n held → IsTarget n (heard held task)
heard_aims n held OpeningSource a = a
heard_aims n held OpeningTarget a = a
heard_aims n held Committing a = a
heard_aims n held Leaving a = a
heard_aims n held (Reading table) a = a
heard_aims n held (Emptying table rows) a = a
heard_aims n held (Filling table rows left) a = a
heard_aims n held OpeningNumbers a = a
heard_aims n held (LockingSerial table next) a = a
heard_aims n held ClosingNumbers a = a
heard_aims n held (ReadingSerial table) a = a
heard_aims n held (SettingSerial table next) a = a

taken_at_aims : (n : Option ℕ) (held : Held) (task : Task) (answer : Answer) (side : Side) → IsTarget n held → Aims n (taken_at held task answer side)
taken_at_aims n held task answer Source a = a
taken_at_aims n held task answer Target a = answered_aims n held task answer (refusal_of answer) a

taken_aims : (n : Option ℕ) (held : Held) (at : Due) (answer : Answer) → IsAimed n held.target at → Aims n (taken held at answer)
unfolding taken
taken_aims n held (Waiting task) answer a = taken_at_aims n (heard held task) task answer (side_of task) (heard_aims n held task a)
taken_aims n held (Undoing side ending) answer a = tt
taken_aims n held at answer a = a

-- Losses, detachments, swaps, posts, orders.

lost_aims : (n : Option ℕ) (held : Held) (side : Side) (ending : Ending) (before count : ℕ) → Aims n (lost_at held side ending before count)
lost_aims n held Source ending before count = tt
lost_aims n held Target ending before count = tt

faulted_aims : (n : Option ℕ) (held : Held) (at : Due) (before count : ℕ) → IsAimed n held.target at → Aims n (faulted held at before count)
faulted_aims n held (Waiting task) before count a = lost_aims n held (side_of task) (Refused lost_on_the_way) before count
faulted_aims n held (Undoing side ending) before count a = lost_aims n held side ending before count
faulted_aims n held at before count a = a

parted_aims : (n : Option ℕ) (held : Held) (at : Due) → IsAimed n held.target at → Aims n (detached_at held at)
parted_aims n held (LostDue ending before count) a = tt
parted_aims n held at a = a

detached_aims : (n : Option ℕ) (held : Held) (at : Due) (answer : GateAnswer) → IsAimed n held.target at → Aims n (detached held at answer)
detached_aims n held at (Seen view) a = parted_aims n (with_view held view) at a
detached_aims n held at (Granted view) a = parted_aims n (with_view held view) at a
detached_aims n held at (IsHeld count) a = a
detached_aims n held at Spent a = a

swapped_aims : (n : Option ℕ) (held : Held) (at : Due) → IsAimed n held.target at → Aims n (swapped held at)
swapped_aims n held SwapDue a = a
swapped_aims n held at a = a

undone_aims : (n : Option ℕ) (held : Held) (ending : Ending) (o : Owed) → Aims n (undone held ending o)
undone_aims n held ending (Transaction side) = tt
undone_aims n held ending Snapshot = tt
undone_aims n held ending LiveTransaction = tt
undone_aims n held ending TheQuiet = tt
undone_aims n held ending Nothing = tt

posted_aims : (n : Option ℕ) (held : Held) (at : Due) → IsAimed n held.target at → Aims n (posted held at)
posted_aims n held (PostDue task) a = a
posted_aims n held (Closing ending) a = undone_aims n held ending (owed held)
posted_aims n held at a = a

left_aims : (n : Option ℕ) (held : Held) (at : Due) → Aims n (left held at)
left_aims n held (LostDue ending before count) = tt
left_aims n held at = tt

ordered_aims : (n : Option ℕ) (held : Held) (at : Due) (body : OrderBody) → IsAimed n held.target at → Aims (named_ordered body n) (ordered held at body)
ordered_aims n held at (orders.Recover number) a = refl
ordered_aims n held at orders.Leave a = left_aims n held at
ordered_aims n held at body a = a

-- Calls of the gate.

granted_aims : (n : Option ℕ) (held : Held) (at : Due) → IsAimed n held.target at → Aims n (granted held at)
unfolding granted
granted_aims n held (LookDue number) a = looked_aims n held number (lowest held.view.attached.bits) a
granted_aims n held StartDue a = started_aims n (record held { quiet = Copying }) a
granted_aims n held EnterDue a = snapshot_aims n (record held { gate = InSnapshot }) (lowest held.view.attached.bits) a
granted_aims n held (ShowDue task answer) a = shown_aims n held task answer a
granted_aims n held QuietDue a = quiet_aims n (record held { quiet = Entered; touched = held.view.touched }) (lowest held.view.attached.bits) a
granted_aims n held AttachDue a = tt
granted_aims n held (Closing ending) a = tt
granted_aims n held at a = a

held_off_aims : (n : Option ℕ) (held : Held) (at : Due) → IsAimed n held.target at → Aims n (held_off held at)
held_off_aims n held StartDue a = tt
held_off_aims n held at a = a

called_aims : (n : Option ℕ) (held : Held) (at : Due) (answer : GateAnswer) → IsAimed n held.target at → Aims n (called held at answer)
unfolding called
called_aims n held at (Seen view) a = granted_aims n (with_view held view) at a
called_aims n held at (Granted view) a = granted_aims n (with_view held view) at a
called_aims n held at (IsHeld count) a = held_off_aims n held at a
called_aims n held at Spent a = tt

aims_on : (n : Option ℕ) (r : Standing) (event : SessionEvent) → Aims n r → Aims (named_after event n) (after r event)
unfolding after_at
aims_on n r (events.Ordered order) a = ordered_aims n r.held r.due order.body a
aims_on n r (events.Called call answer) a = called_aims n r.held r.due answer a
aims_on n r (events.Swapped b) a = swapped_aims n r.held r.due a
aims_on n r (events.Posted b request) a = posted_aims n r.held r.due a
aims_on n r (events.Taken b answer) a = taken_aims n r.held r.due answer a
aims_on n r (events.Faulted b before count) a = faulted_aims n r.held r.due before count a
aims_on n r (events.Detached b cause answer) a = detached_aims n r.held r.due answer a
aims_on n r (events.Replied outcome status) a = tt
aims_on n r events.Ended a = tt

-- What is swapped and attached.

back_named : (n : Option ℕ) (held : Held) (ending : Ending) (o : Owed) (call : GateCall) → closing_action held ending o ≡ actions.Gate call → CallIsNamed n call
back_named n held ending (Transaction side) call e = absurd (cc)
back_named n held ending Snapshot call e = by_call calls.LeaveSnapshot call (CallIsNamed n) e tt
back_named n held ending LiveTransaction call e = by_call calls.Finish call (CallIsNamed n) e tt
back_named n held ending TheQuiet call e = by_call calls.LeaveQuiet call (CallIsNamed n) e tt
back_named n held Attached Nothing call e = absurd (cc)
back_named n held (Refused code) Nothing call e = absurd (cc)
back_named n held Leaves Nothing call e = absurd (cc)

call_named : (n : Option ℕ) (held : Held) (at : Due) (call : GateCall) → action_at held at ≡ actions.Gate call → IsAimed n held.target at → CallIsNamed n call
call_named n held (LookDue number) call e a = by_call calls.Look call (CallIsNamed n) e tt
call_named n held StartDue call e a = by_call calls.StartCopy call (CallIsNamed n) e tt
call_named n held EnterDue call e a = by_call calls.EnterSnapshot call (CallIsNamed n) e tt
call_named n held (ShowDue task answer) call e a = by_call calls.Look call (CallIsNamed n) e tt
call_named n held LeaveSnapshotDue call e a = by_call calls.LeaveSnapshot call (CallIsNamed n) e tt
call_named n held FinishDue call e a = by_call calls.Finish call (CallIsNamed n) e tt
call_named n held AskDue call e a = by_call calls.AskQuiet call (CallIsNamed n) e tt
call_named n held QuietDue call e a = by_call calls.EnterQuiet call (CallIsNamed n) e tt
call_named n held AttachDue call e a = by_call (calls.Attach held.target) call (CallIsNamed n) e a
call_named n held (Closing ending) call e a = back_named n held ending (owed held) call e
call_named n held at call e a = absurd (cc)

swap_named : (n : Option ℕ) (held : Held) (at : Due) (b : BackendId) → action_at held at ≡ actions.Swap b → IsAimed n held.target at → n ≡ Some b.number
swap_named n held SwapDue b e a = let same : held.target ≡ b = cc in subst (λ (x : BackendId). n ≡ Some x.number) same a
swap_named n held (Closing ending) b e a = absurd (no_swap held ending (owed held) b e)
swap_named n held at b e a = absurd (cc)

is_named : (n : Option ℕ) (r : Standing) (event : SessionEvent) → MayHappen r event → Aims n r → IsNamed n event
is_named n r (events.Called call answer) may a = call_named n r.held r.due call may.0 a
is_named n r (events.Swapped b) may a = swap_named n r.held r.due b may a
is_named n r event may a = tt

-- Over a run.

all_named : (n : Option ℕ) (r : Standing) (es : List SessionEvent) → Aims n r → IsRun r es → AreNamed n es
all_named n r [] a run = tt
all_named n r (e ∷ es) a run =
    (is_named n r e run.0 a, all_named (named_after e n) (after r e) es (aims_on n r e a) run.1)

pub always_named : (id : SessionId) (layout : Layout) (es : List SessionEvent) → IsRun (new_standing id layout) es → AreNamed None es
always_named id layout es run = all_named None (new_standing id layout) es tt run
