-- Every event that may happen leads from a sound state to a sound one.
use Rattle.std.proofs.Common.{◌≡◌, ◌+◌, ℕ, ℤ, Bool, true, false, List, [], ◌∷◌, Some, None, refl}
use Rattle.std.specs.Prelude.{Option, not, ◌&&◌, if◌then◌else◌}
use Rattle.pool_base.specs.Sets.{has}
use Rattle.pool_base.specs.declared.code.Code.{Code}
use Rattle.pool_base.specs.declared.backend_id.BackendId.{BackendId}
use Rattle.pool_base.specs.declared.backend_set.BackendSet.{BackendSet}
use Rattle.pool_base.specs.declared.gate_call.GateAnswer.{GateAnswer}
use Rattle.pool_base.specs.declared.gate_call.GateAnswer.TheVariants.{Seen, Granted, Held, Spent}
use Rattle.backend_trait.specs.declared.answer.Answer.{Answer}
use Rattle.backend_trait.specs.declared.answer.Answer.TheVariants as answers
use Rattle.write_path.specs.declared.kind.ChainKind.{ChainKind}
use Rattle.write_path.specs.declared.kind.ChainKind.TheVariants.{All, StopAtRefusal}
use Rattle.session_machine.specs.declared.work.Class.{Class}
use Rattle.session_machine.specs.declared.work.Class.TheVariants as classes
use Rattle.session_machine.specs.declared.work.Work.{Work}
use Rattle.session_orders.specs.declared.order.OrderBody.{OrderBody}
use Rattle.session_orders.specs.declared.order.OrderBody.TheVariants as orders
use Rattle.session_orders.specs.declared.outcome.Tag.TheVariants as tags
use Rattle.session_orders.specs.declared.outcome.Outcome.{Outcome}
use Rattle.session_orders.specs.declared.outcome.Outcome.TheVariants as outcomes
use Rattle.session_machine.specs.declared.status.Status.{Status}
use Rattle.session_machine.specs.declared.status.Status.TheVariants.{Idle, InBlock, Failed}
use Rattle.session_machine.specs.declared.machine.GatePhase.{GatePhase}
use Rattle.session_machine.specs.declared.machine.GatePhase.TheVariants.{Out, InSnapshot, Live, InCommit}
use Rattle.session_machine.specs.declared.machine.Heard.{Heard}
use Rattle.session_machine.specs.declared.machine.Ending.{Ending}
use Rattle.session_machine.specs.declared.machine.Ending.TheVariants.{Replies, Leaves}
use Rattle.session_machine.specs.declared.machine.Stage.{Stage}
use Rattle.session_machine.specs.declared.machine.Stage.TheVariants.{Opening, Reading, Running, Locking, Inserting, Committing, Closing, RollingBack}
use Rattle.session_machine.specs.declared.machine.Point.{Point}
use Rattle.session_machine.specs.declared.machine.Point.TheVariants.{Resting, EnterDue, LookDue, PostDue, Waiting, LostDue, SplitDue, ChooseDue, ShowDue, LeaveSnapshotDue, UnwindDue, EnterCommitDue, LeaveCommitDue, FinishDue, ReplyDue, EndDue}
use Rattle.session_machine.specs.declared.machine.Session.{Session}
use Rattle.session_machine.specs.Codes.{moment_out_of_range, counts_spent, no_backend}
use Rattle.session_machine.specs.Classes.{work_in}
use Rattle.session_machine.specs.Answers.{has_answered, is_open, first_open, is_stopped, next_of, all_backends, lowest, kept, first_other, goes_on, counts, reader}
use Rattle.session_machine.specs.Rules.{due, primary, ended, released, begun, begun_at, begun_behind, failing, refused_at, refused, stranded, stranded_in, started_as, rewritten, entering, stated, stated_at, moment_at, block_begun, idle, committing, block_committed, rolled_back, block_rolled_back, settled, leaving, left_in, left_lost, left, ordered, error_of, done_with, refusal_of, ran, opened, locked, closed, decided, split, judged, asked, reading_at, chosen, read, looked, looked_at, ticket_of, counted_read, first_chosen, shown, snapshot_entered, snapshot_left, commit_entered, in_phase, with_view, granted, called, lost_one, parted, parted_at, detached}
use Rattle.session_machine.proofs.Backends.{found_passes}
use Rattle.session_engine.specs.Sound.{AreOne, ArePlain, IsSound}

-- How orders end, and how chains begin.

ended_sound : (s : Session) (ending : Ending) → AreOne s.heard → IsSound (ended s ending)
ended_sound s (Replies outcome) one = (one, (tt, tt))
ended_sound s Leaves one = (one, (tt, tt))

released_sound : (s : Session) (phase : GatePhase) (ending : Ending) → AreOne s.heard → IsSound (released s phase ending)
released_sound s Out ending one = ended_sound s ending one
released_sound s InSnapshot ending one = (one, (tt, tt))
released_sound s (Live changed tables) ending one = (one, (tt, tt))
released_sound s InCommit ending one = (one, (tt, tt))

begun_sound : (s : Session) (stage : Stage) → IsSound (begun s stage)
begun_sound s stage = (tt, (tt, λ _. refl))

begun_at_sound : (s : Session) (stage : Stage) (b : Option BackendId) → IsSound (begun_at s stage b)
begun_at_sound s stage None = begun_sound s stage
begun_at_sound s stage (Some b) = (tt, (refl, λ _. refl))

begun_behind_sound : (behind : Bool) (s : Session) (stage : Stage) → IsSound (begun_behind behind s stage)
begun_behind_sound true s stage = begun_at_sound s stage (primary s)
begun_behind_sound false s stage = begun_sound s stage

refused_at_sound : (behind : Bool) (s : Session) (phase : GatePhase) (outcome : Outcome) → AreOne s.heard → IsSound (refused_at behind s phase outcome)
refused_at_sound behind s Out outcome one = (one, (tt, tt))
refused_at_sound behind s InSnapshot outcome one = begun_behind_sound behind (failing s) (RollingBack (Replies outcome))
refused_at_sound behind s (Live changed tables) outcome one = begun_behind_sound behind (failing s) (RollingBack (Replies outcome))
refused_at_sound behind s InCommit outcome one = begun_behind_sound behind (failing s) (RollingBack (Replies outcome))

refused_sound : (behind : Bool) (s : Session) (outcome : Outcome) → AreOne s.heard → IsSound (refused behind s outcome)
refused_sound behind s outcome one = refused_at_sound behind s s.gate outcome one

stranded_sound : (s : Session) → AreOne s.heard → IsSound (stranded s)
stranded_sound s one = released_sound (failing s) s.gate (Replies (error_of no_backend)) one

stranded_in_sound : (s : Session) (stage : Stage) → AreOne s.heard → IsSound (stranded_in s stage)
stranded_in_sound s (Opening work) one = stranded_sound s one
stranded_in_sound s (Reading work ticket) one = stranded_sound s one
stranded_in_sound s (Running work) one = stranded_sound s one
stranded_in_sound s (Locking work table) one = stranded_sound s one
stranded_in_sound s (Inserting work sent) one = stranded_sound s one
stranded_in_sound s Committing one = (one, (tt, tt))
stranded_in_sound s Closing one = stranded_sound s one
stranded_in_sound s (RollingBack ending) one = released_sound s s.gate ending one

started_as_sound : (s : Session) (work : Work) (class : Class) → IsSound (started_as s work class)
started_as_sound s work classes.Read = (tt, (tt, tt))
started_as_sound s work classes.LockingRead = begun_sound s (Running work)
started_as_sound s work (classes.Write verb) = begun_sound s (Running work)
started_as_sound s work (classes.SerialInsert table) = begun_sound s (Locking work table)

-- Orders.

entering_sound : (s : Session) (phase : GatePhase) (work : Work) → AreOne s.heard → IsSound (entering s phase work)
entering_sound s Out work one = (one, (tt, tt))
entering_sound s InSnapshot work one = started_as_sound s work work.class
entering_sound s (Live changed tables) work one = started_as_sound s work work.class
entering_sound s InCommit work one = started_as_sound s work work.class

stated_sound : (s : Session) (moment : ℤ) (work : Option Work) → AreOne s.heard → IsSound (stated s moment work)
stated_sound s moment None one = refused_sound false s (error_of moment_out_of_range) one
stated_sound s moment (Some work) one = entering_sound (record s { moment = moment }) s.gate work one

stated_at_sound : (s : Session) (moment : ℤ) (work : Work) → AreOne s.heard → IsSound (stated_at s moment work)
unfolding stated_at
stated_at_sound s moment work one = stated_sound s moment (rewritten moment work) one

block_begun_sound : (s : Session) (moment : ℤ) (status : Status) → AreOne s.heard → IsSound (block_begun s moment status)
unfolding block_begun
block_begun_sound s moment Idle one = (one, (tt, tt))
block_begun_sound s moment InBlock one = (one, (tt, tt))
block_begun_sound s moment Failed one = (one, (tt, tt))

committing_sound : (s : Session) (phase : GatePhase) (outcome : Outcome) → AreOne s.heard → IsSound (committing s phase outcome)
committing_sound s Out outcome one = (one, (tt, tt))
committing_sound s InSnapshot outcome one = (one, (tt, tt))
committing_sound s (Live true tables) outcome one = (one, (tt, tt))
committing_sound s (Live false tables) outcome one = begun_sound s Closing
committing_sound s InCommit outcome one = (one, (tt, tt))

block_committed_sound : (s : Session) (status : Status) → AreOne s.heard → IsSound (block_committed s status)
unfolding block_committed
block_committed_sound s Idle one = (one, (tt, tt))
block_committed_sound s InBlock one = committing_sound s s.gate (done_with tags.Commit) one
block_committed_sound s Failed one = (one, (tt, tt))

rolled_back_sound : (s : Session) (phase : GatePhase) → AreOne s.heard → IsSound (rolled_back s phase)
rolled_back_sound s Out one = (one, (tt, tt))
rolled_back_sound s InSnapshot one = begun_sound (idle s) (RollingBack (Replies (done_with tags.Rollback)))
rolled_back_sound s (Live changed tables) one = begun_sound (idle s) (RollingBack (Replies (done_with tags.Rollback)))
rolled_back_sound s InCommit one = begun_sound (idle s) (RollingBack (Replies (done_with tags.Rollback)))

block_rolled_back_sound : (s : Session) (status : Status) → AreOne s.heard → IsSound (block_rolled_back s status)
unfolding block_rolled_back
block_rolled_back_sound s Idle one = (one, (tt, tt))
block_rolled_back_sound s InBlock one = rolled_back_sound s s.gate one
block_rolled_back_sound s Failed one = (one, (tt, tt))

settled_sound : (s : Session) (status : Status) → AreOne s.heard → IsSound (settled s status)
unfolding settled
settled_sound s Idle one = committing_sound s s.gate outcomes.Settled one
settled_sound s InBlock one = (one, (tt, tt))
settled_sound s Failed one = (one, (tt, tt))

leaving_sound : (s : Session) (phase : GatePhase) → AreOne s.heard → IsSound (leaving s phase)
leaving_sound s Out one = (one, (tt, tt))
leaving_sound s InSnapshot one = begun_sound s (RollingBack Leaves)
leaving_sound s (Live changed tables) one = begun_sound s (RollingBack Leaves)
leaving_sound s InCommit one = begun_sound s (RollingBack Leaves)

left_in_sound : (s : Session) (stage : Stage) → AreOne s.heard → ArePlain stage s.heard → IsSound (left_in s stage)
left_in_sound s (Opening work) one plain = leaving_sound s s.gate one
left_in_sound s (Reading work ticket) one plain = leaving_sound s s.gate one
left_in_sound s (Running work) one plain = leaving_sound s s.gate one
left_in_sound s (Locking work table) one plain = leaving_sound s s.gate one
left_in_sound s (Inserting work sent) one plain = leaving_sound s s.gate one
left_in_sound s Committing one plain = leaving_sound s s.gate one
left_in_sound s Closing one plain = leaving_sound s s.gate one
left_in_sound s (RollingBack ending) one plain = (one, (tt, plain))

left_lost_sound : (s : Session) (stage : Stage) (b : BackendId) (x y : ℕ) → AreOne s.heard → ArePlain stage s.heard → IsSound (left_lost s stage b x y)
left_lost_sound s (Opening work) b x y one plain = begun_sound s (RollingBack Leaves)
left_lost_sound s (Reading work ticket) b x y one plain = begun_sound s (RollingBack Leaves)
left_lost_sound s (Running work) b x y one plain = begun_sound s (RollingBack Leaves)
left_lost_sound s (Locking work table) b x y one plain = begun_sound s (RollingBack Leaves)
left_lost_sound s (Inserting work sent) b x y one plain = begun_sound s (RollingBack Leaves)
left_lost_sound s Committing b x y one plain = begun_sound s (RollingBack Leaves)
left_lost_sound s Closing b x y one plain = begun_sound s (RollingBack Leaves)
left_lost_sound s (RollingBack ending) b x y one plain = (one, (tt, plain))

pub left_sound : (s : Session) (p : Point) → IsSound (due s p) → IsSound (left s p)
unfolding left
left_sound s Resting sound = leaving_sound s s.gate sound.0
left_sound s (EnterDue work) sound = leaving_sound s s.gate sound.0
left_sound s (LookDue stage) sound = left_in_sound s stage sound.0 sound.1.1
left_sound s (PostDue stage b) sound = left_in_sound s stage sound.0 sound.1.1
left_sound s (Waiting stage b) sound = left_in_sound s stage sound.0 sound.1.1
left_sound s (LostDue stage b before after) sound = left_lost_sound s stage b before after sound.0 sound.1.1
left_sound s (SplitDue stage best own among more) sound = left_in_sound s stage sound.0 sound.1.1
left_sound s (ChooseDue work) sound = leaving_sound s s.gate sound.0
left_sound s ShowDue sound = leaving_sound s s.gate sound.0
left_sound s (LeaveSnapshotDue work) sound = leaving_sound s s.gate sound.0
left_sound s (UnwindDue ending) sound = (sound.0, (tt, tt))
left_sound s EnterCommitDue sound = leaving_sound s s.gate sound.0
left_sound s (LeaveCommitDue ending) sound = (sound.0, (tt, tt))
left_sound s (FinishDue ending) sound = (sound.0, (tt, tt))
left_sound s (ReplyDue outcome) sound = leaving_sound s s.gate sound.0
left_sound s EndDue sound = leaving_sound s s.gate sound.0

pub ordered_sound : (s : Session) (p : Point) (moment : ℤ) (body : OrderBody) → IsSound (due s p) → IsSound (ordered s p moment body)
unfolding ordered
ordered_sound s p moment (orders.Statement checked) sound = stated_at_sound s (moment_at s.status s.gate s.moment moment) (work_in checked) sound.0
ordered_sound s p moment orders.Begin sound = block_begun_sound s moment s.status sound.0
ordered_sound s p moment orders.Commit sound = block_committed_sound s s.status sound.0
ordered_sound s p moment orders.Rollback sound = block_rolled_back_sound s s.status sound.0
ordered_sound s p moment orders.Settle sound = settled_sound s s.status sound.0
ordered_sound s p moment orders.ShowNodes sound = (sound.0, (tt, tt))
ordered_sound s p moment (orders.Recover b) sound = (sound.0, (tt, tt))
ordered_sound s p moment (orders.Refuse code name) sound = refused_sound false s (outcomes.Error code name) sound.0
ordered_sound s p moment orders.Leave sound = left_sound s p sound

-- Where a chain's end leads.

ran_sound : (behind : Bool) (s : Session) (work : Work) (answer : Answer) → AreOne s.heard → IsSound (ran behind s work answer)
ran_sound behind s work (answers.Refused code) one = refused_sound behind s (error_of code) one
ran_sound behind s work (answers.Rows rows) one = (one, (tt, tt))
ran_sound behind s work (answers.Count n) one = (one, (tt, tt))
ran_sound behind s work answers.Began one = (one, (tt, tt))
ran_sound behind s work answers.Locked one = (one, (tt, tt))
ran_sound behind s work answers.Done one = (one, (tt, tt))
ran_sound behind s work (answers.Serial n) one = (one, (tt, tt))

opened_sound : (behind : Bool) (s : Session) (work : Work) (refusal : Option Code) → AreOne s.heard → IsSound (opened behind s work refusal)
opened_sound behind s work None one = (one, (tt, tt))
opened_sound behind s work (Some code) one = refused_sound behind s (error_of code) one

locked_sound : (behind : Bool) (s : Session) (work : Work) (refusal : Option Code) → AreOne s.heard → IsSound (locked behind s work refusal)
locked_sound behind s work None one = begun_behind_sound behind s (Inserting work false)
locked_sound behind s work (Some code) one = refused_sound behind s (error_of code) one

closed_sound : (behind : Bool) (s : Session) (stage : Stage) (answer : Answer) → AreOne s.heard → IsSound (closed behind s stage answer)
closed_sound behind s (Opening work) answer one = opened_sound behind s work (refusal_of answer) one
closed_sound behind s (Reading work ticket) answer one = ran_sound behind s work answer one
closed_sound behind s (Running work) answer one = ran_sound behind s work answer one
closed_sound behind s (Locking work table) answer one = locked_sound behind s work (refusal_of answer) one
closed_sound behind s (Inserting work sent) answer one = ran_sound behind s work answer one
closed_sound behind s Committing answer one = (one, (tt, tt))
closed_sound behind s Closing answer one = (one, (tt, tt))
closed_sound behind s (RollingBack ending) answer one = released_sound s s.gate ending one

decided_sound : (behind : Bool) (s : Session) (stage : Stage) (answer : Answer) (more : Bool) → AreOne s.heard → ArePlain stage s.heard → IsSound (decided behind s stage answer more)
decided_sound behind s stage answer true one plain = (one, (tt, plain))
decided_sound behind s stage answer false one plain = closed_sound behind s stage answer one

split_sound : (behind : Bool) (s : Session) (stage : Stage) (best : Heard) (among : BackendSet) (more : Bool) (other : Option Heard) → AreOne s.heard → ArePlain stage s.heard
    → IsSound (split behind s stage best among more other)
split_sound behind s stage best among more None one plain = decided_sound behind s stage best.answer more one plain
split_sound behind s stage best among more (Some own) one plain = (one, (tt, plain))

judged_sound : (s : Session) (stage : Stage) (best : Option Heard) → AreOne s.heard → ArePlain stage s.heard → IsSound (judged s stage best)
judged_sound s stage None one plain = (one, (tt, plain))
judged_sound s stage (Some best) one plain =
    split_sound true s stage best s.view.attached (goes_on s.view.attached.bits s.heard best.answer) (first_other s.view.attached.bits best.answer 0 s.heard) one plain

-- the next has not answered
open_at : (t u : Bool) → (t && not u) ≡ true → u ≡ false
open_at true true e = absurd (cc)
open_at true false e = refl
open_at false u e = absurd (cc)

next_at : (stopped : Bool) (attached : ℕ) (heard : List Heard) (b : BackendId)
    → (if stopped then None else first_open attached heard) ≡ Some b → has_answered heard b ≡ false
next_at true attached heard b e = absurd (cc)
next_at false attached heard b e =
    open_at (has attached b.number) (has_answered heard b) (found_passes (is_open attached heard) all_backends b e)

next_fresh : (kind : ChainKind) (attached : ℕ) (heard : List Heard) (b : BackendId) → next_of kind attached heard ≡ Some b → has_answered heard b ≡ false
next_fresh kind attached heard b e = next_at (is_stopped kind heard (lowest attached)) attached heard b e

asked_sound : (s : Session) (stage : Stage) (next : Option BackendId) → ((b : BackendId) → next ≡ Some b → has_answered s.heard b ≡ false)
    → AreOne s.heard → ArePlain stage s.heard → IsSound (asked s stage next)
unfolding asked
asked_sound s stage None fresh one plain = judged_sound s stage (kept s.view.attached.bits s.heard) one plain
asked_sound s stage (Some b) fresh one plain = (one, (fresh b refl, plain))

gone_on_sound : (s : Session) (stage : Stage) (kind : ChainKind) → AreOne s.heard → ArePlain stage s.heard
    → IsSound (asked s stage (next_of kind s.view.attached.bits s.heard))
gone_on_sound s stage kind one plain = asked_sound s stage (next_of kind s.view.attached.bits s.heard) (next_fresh kind s.view.attached.bits s.heard) one plain

reading_at_sound : (s : Session) (work : Work) (ticket : ℕ) (b : Option BackendId) → AreOne s.heard → IsSound (reading_at s work ticket b)
reading_at_sound s work ticket None one = stranded_sound s one
reading_at_sound s work ticket (Some b) one = (tt, (refl, λ _. refl))

chosen_sound : (s : Session) (work : Work) (ticket : ℕ) → AreOne s.heard → IsSound (chosen s work ticket)
chosen_sound s work ticket one = reading_at_sound s work ticket (reader s.policy s.view.attached.bits ticket) one

read_at_sound : (s : Session) (work : Work) (ticket : ℕ) (h : Heard) (t : Bool) → AreOne s.heard
    → IsSound (if t then closed true s (Reading work ticket) h.answer else chosen s work ticket)
read_at_sound s work ticket h true one = closed_sound true s (Reading work ticket) h.answer one
read_at_sound s work ticket h false one = chosen_sound s work ticket one

read_sound : (s : Session) (work : Work) (ticket : ℕ) (heard : List Heard) → AreOne s.heard → IsSound (read s work ticket heard)
read_sound s work ticket [] one = chosen_sound s work ticket one
read_sound s work ticket (h ∷ hs) one = read_at_sound s work ticket h (counts s.view.attached.bits h) one

looked_sound : (s : Session) (stage : Stage) → AreOne s.heard → ArePlain stage s.heard → IsSound (looked s stage)
looked_sound s (Reading work ticket) one plain = read_sound s work ticket s.heard one
looked_sound s (Opening work) one plain = gone_on_sound s (Opening work) All one plain
looked_sound s (Running work) one plain = gone_on_sound s (Running work) StopAtRefusal one plain
looked_sound s (Locking work table) one plain = gone_on_sound s (Locking work table) StopAtRefusal one plain
looked_sound s (Inserting work sent) one plain = gone_on_sound s (Inserting work sent) All one plain
looked_sound s Committing one plain = gone_on_sound s Committing All one plain
looked_sound s Closing one plain = gone_on_sound s Closing All one plain
looked_sound s (RollingBack ending) one plain = gone_on_sound s (RollingBack ending) All one plain

looked_at_sound : (s : Session) (stage : Stage) (b : Option BackendId) → AreOne s.heard → ArePlain stage s.heard → IsSound (looked_at s stage b)
looked_at_sound s stage None one plain = stranded_in_sound s stage one
looked_at_sound s stage (Some b) one plain = looked_sound s stage one plain

-- The gate's answers.

first_chosen_sound : (s : Session) (work : Work) (b : Option BackendId) → AreOne s.heard → IsSound (first_chosen s work b)
first_chosen_sound s work None one = stranded_sound s one
first_chosen_sound s work (Some b) one = chosen_sound (counted_read s) work (ticket_of s s.policy.per_statement) one

shown_sound : (s : Session) (b : Option BackendId) → AreOne s.heard → IsSound (shown s b)
shown_sound s None one = stranded_sound s one
shown_sound s (Some b) one = (one, (tt, tt))

snapshot_entered_sound : (s : Session) (work : Work) (b : Option BackendId) → AreOne s.heard → IsSound (snapshot_entered s work b)
snapshot_entered_sound s work None one = stranded_sound s one
snapshot_entered_sound s work (Some b) one = begun_sound s (Opening work)

snapshot_left_sound : (s : Session) (work : Work) (b : Option BackendId) → AreOne s.heard → IsSound (snapshot_left s work b)
snapshot_left_sound s work None one = stranded_sound s one
snapshot_left_sound s work (Some b) one = started_as_sound s work work.class

commit_entered_sound : (s : Session) (b : Option BackendId) → AreOne s.heard → IsSound (commit_entered s b)
commit_entered_sound s None one = stranded_in_sound s Committing one
commit_entered_sound s (Some b) one = begun_sound s Committing

granted_sound : (s : Session) (p : Point) → IsSound (due s p) → IsSound (granted s p)
unfolding granted
granted_sound s (EnterDue work) sound = snapshot_entered_sound (in_phase s InSnapshot) work (primary s) sound.0
granted_sound s (LookDue stage) sound = looked_at_sound s stage (primary s) sound.0 sound.1.1
granted_sound s (ChooseDue work) sound = first_chosen_sound s work (primary s) sound.0
granted_sound s ShowDue sound = shown_sound s (primary s) sound.0
granted_sound s (LeaveSnapshotDue work) sound = snapshot_left_sound (in_phase s (Live false 0)) work (primary s) sound.0
granted_sound s (UnwindDue ending) sound = (sound.0, (tt, tt))
granted_sound s EnterCommitDue sound = commit_entered_sound (in_phase s InCommit) (primary s) sound.0
granted_sound s (LeaveCommitDue ending) sound = ended_sound (in_phase s Out) ending sound.0
granted_sound s (FinishDue ending) sound = ended_sound (in_phase s Out) ending sound.0
granted_sound s Resting sound = sound
granted_sound s (PostDue stage b) sound = sound
granted_sound s (Waiting stage b) sound = sound
granted_sound s (LostDue stage b before after) sound = sound
granted_sound s (SplitDue stage best own among more) sound = sound
granted_sound s (ReplyDue outcome) sound = sound
granted_sound s EndDue sound = sound

pub called_sound : (s : Session) (p : Point) (answer : GateAnswer) → IsSound (due s p) → IsSound (called s p answer)
unfolding called
called_sound s p (Seen view) sound = granted_sound (with_view s view) p sound
called_sound s p (Granted view) sound = granted_sound (with_view s view) p sound
called_sound s p (Held count) sound = sound
called_sound s p Spent sound = refused_sound false s (error_of counts_spent) sound.0

lost_one_sound : (s : Session) (stage : Stage) (b : Option BackendId) → AreOne s.heard → ArePlain stage s.heard → IsSound (lost_one s stage b)
lost_one_sound s stage None one plain = stranded_in_sound s stage one
lost_one_sound s stage (Some b) one plain = (one, (tt, plain))

parted_sound : (s : Session) (stage : Stage) (best own : Heard) (among : BackendSet) (more : Bool) (b : Option BackendId) → AreOne s.heard → ArePlain stage s.heard
    → IsSound (parted s stage best own among more b)
parted_sound s stage best own among more None one plain = stranded_in_sound s stage one
parted_sound s stage best own among more (Some b) one plain =
    split_sound false s stage best among more (first_other among.bits best.answer (own.b.number + 1) s.heard) one plain

parted_at_sound : (s : Session) (p : Point) → IsSound (due s p) → IsSound (parted_at s p)
parted_at_sound s (LostDue stage b before after) sound = lost_one_sound s stage (primary s) sound.0 sound.1.1
parted_at_sound s (SplitDue stage best own among more) sound = parted_sound s stage best own among more (primary s) sound.0 sound.1.1
parted_at_sound s (EnterDue work) sound = sound
parted_at_sound s (LookDue stage) sound = sound
parted_at_sound s (ChooseDue work) sound = sound
parted_at_sound s ShowDue sound = sound
parted_at_sound s (LeaveSnapshotDue work) sound = sound
parted_at_sound s (UnwindDue ending) sound = sound
parted_at_sound s EnterCommitDue sound = sound
parted_at_sound s (LeaveCommitDue ending) sound = sound
parted_at_sound s (FinishDue ending) sound = sound
parted_at_sound s Resting sound = sound
parted_at_sound s (PostDue stage b) sound = sound
parted_at_sound s (Waiting stage b) sound = sound
parted_at_sound s (ReplyDue outcome) sound = sound
parted_at_sound s EndDue sound = sound

pub detached_sound : (s : Session) (p : Point) (answer : GateAnswer) → IsSound (due s p) → IsSound (detached s p answer)
unfolding detached
detached_sound s p (Seen view) sound = parted_at_sound (with_view s view) p sound
detached_sound s p (Granted view) sound = parted_at_sound (with_view s view) p sound
detached_sound s p (Held count) sound = sound
detached_sound s p Spent sound = sound
