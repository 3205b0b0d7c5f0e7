-- A commit of changes begins where the gate lets it in, and one of nothing where nothing has changed.
use Rattle.std.proofs.Common.{◌≡◌, ◌⊎◌, ◌+◌, ℕ, ℤ, Bool, true, false, Some, None, List, [], ◌∷◌, refl, sym, ap, subst, inl, inr}
use Rattle.std.specs.Prelude.{Option, if◌then◌else◌}
use Rattle.pool_base.specs.declared.code.Code.{Code}
use Rattle.pool_base.specs.declared.backend_id.BackendId.{BackendId}
use Rattle.pool_base.specs.declared.backend_set.BackendSet.{BackendSet}
use Rattle.pool_base.specs.declared.gate_call.View.{View}
use Rattle.pool_base.specs.declared.gate_call.GateCall.{GateCall}
use Rattle.pool_base.specs.declared.gate_call.GateCall.TheVariants as calls
use Rattle.pool_base.specs.declared.gate_call.GateAnswer.{GateAnswer}
use Rattle.pool_base.specs.declared.gate_call.GateAnswer.TheVariants.{Seen, Granted, Held, Spent}
use Rattle.backend_trait.specs.declared.answer.Answer.{Answer}
use Rattle.backend_trait.specs.declared.answer.Answer.TheVariants as answers
use Rattle.write_path.specs.declared.kind.ChainKind.TheVariants.{All, StopAtRefusal}
use Rattle.session_orders.specs.declared.order.OrderBody.{OrderBody}
use Rattle.session_orders.specs.declared.order.OrderBody.TheVariants as orders
use Rattle.session_orders.specs.declared.outcome.Outcome.{Outcome}
use Rattle.session_orders.specs.declared.outcome.Outcome.TheVariants as outcomes
use Rattle.session_orders.specs.declared.outcome.Tag.TheVariants as tags
use Rattle.session_machine.specs.declared.work.Class.{Class}
use Rattle.session_machine.specs.declared.work.Class.TheVariants as classes
use Rattle.session_machine.specs.declared.work.Work.{Work}
use Rattle.session_machine.specs.declared.status.Status.{Status}
use Rattle.session_machine.specs.declared.status.Status.TheVariants.{Idle, InBlock, Failed}
use Rattle.session_machine.specs.declared.action.Action.TheVariants as actions
use Rattle.session_machine.specs.declared.action.SessionEvent.{SessionEvent}
use Rattle.session_machine.specs.declared.action.SessionEvent.TheVariants as events
use Rattle.session_machine.specs.declared.machine.GatePhase.{GatePhase}
use Rattle.session_machine.specs.declared.machine.GatePhase.TheVariants.{Out, InSnapshot, Live, InCommit}
use Rattle.session_machine.specs.declared.machine.Heard.{Heard}
use Rattle.session_machine.specs.declared.machine.Ending.{Ending}
use Rattle.session_machine.specs.declared.machine.Ending.TheVariants.{Replies, Leaves}
use Rattle.session_machine.specs.declared.machine.Stage.{Stage}
use Rattle.session_machine.specs.declared.machine.Stage.TheVariants.{Opening, Reading, Running, Locking, Inserting, Committing, Closing, RollingBack}
use Rattle.session_machine.specs.declared.machine.Point.{Point}
use Rattle.session_machine.specs.declared.machine.Point.TheVariants.{Resting, EnterDue, LookDue, PostDue, Waiting, LostDue, SplitDue, ChooseDue, ShowDue, LeaveSnapshotDue, UnwindDue, EnterCommitDue, LeaveCommitDue, FinishDue, ReplyDue, EndDue}
use Rattle.session_machine.specs.declared.machine.Session.{Session}
use Rattle.session_machine.specs.declared.machine.Machine.{Machine}
use Rattle.session_machine.specs.Allowed.{MayHappen, answers_call}
use Rattle.session_machine.specs.Classes.{work_in}
use Rattle.session_machine.specs.Codes.{moment_out_of_range, counts_spent, no_backend}
use Rattle.session_machine.specs.Answers.{next_of, kept, first_other, goes_on, counts, reader}
use Rattle.session_machine.specs.Rules.{due, action_at, primary, tables_of, error_of, done_with, failing, ended, released, begun_at, begun_behind, refused_at, refused, stranded, stranded_in, started_as, rewritten, moment_at, entering, stated, stated_at, block_begun, committing, block_committed, rolled_back, block_rolled_back, settled, leaving, left_in, left_lost, left, ordered, ran, opened, locked, closed, refusal_of, decided, split, judged, asked, reading_at, chosen, read, looked, looked_at, ticket_of, counted_read, first_chosen, shown, snapshot_entered, snapshot_left, commit_entered, with_view, in_phase, granted, called, stage_posted, posted, taken, faulted, lost_one, parted, parted_at, detached, after, after_at}
use Rattle.session_ahead.specs.Turns.{stage_at, Commits, Closes, IsEntry, has_changed}

-- The stages of a commit, and where none is under way.

abbrev is_last : Stage → Bool
is_last (Opening work) = false
is_last (Reading work ticket) = false
is_last (Running work) = false
is_last (Locking work table) = false
is_last (Inserting work sent) = false
is_last Committing = true
is_last Closing = true
is_last (RollingBack ending) = false

abbrev is_last_of : Option Stage → Bool
is_last_of None = false
is_last_of (Some stage) = is_last stage

abbrev None_is : Machine → Type 0
None_is m = is_last_of (stage_at m.point) ≡ false

-- it goes on with its stage, if that is a commit's
abbrev Keeps : Stage → Machine → Type 0
Keeps stage m = is_last_of (stage_at m.point) ≡ true → stage_at m.point ≡ Some stage

kept_none : (stage : Stage) (m : Machine) → None_is m → Keeps stage m
kept_none stage m none last = absurd (let both : false ≡ true = cc in cc)

ended_none : (s : Session) (ending : Ending) → None_is (ended s ending)
ended_none s (Replies outcome) = refl
ended_none s Leaves = refl

released_none : (s : Session) (phase : GatePhase) (ending : Ending) → None_is (released s phase ending)
released_none s Out ending = ended_none s ending
released_none s InSnapshot ending = refl
released_none s (Live changed tables) ending = refl
released_none s InCommit ending = refl

begun_at_none : (s : Session) (stage : Stage) (b : Option BackendId) → is_last stage ≡ false → None_is (begun_at s stage b)
begun_at_none s stage None none = none
begun_at_none s stage (Some b) none = none

begun_behind_none : (behind : Bool) (s : Session) (stage : Stage) → is_last stage ≡ false → None_is (begun_behind behind s stage)
begun_behind_none true s stage none = begun_at_none s stage (primary s) none
begun_behind_none false s stage none = none

refused_at_none : (behind : Bool) (s : Session) (phase : GatePhase) (outcome : Outcome) → None_is (refused_at behind s phase outcome)
refused_at_none behind s Out outcome = refl
refused_at_none behind s InSnapshot outcome = begun_behind_none behind (failing s) (RollingBack (Replies outcome)) refl
refused_at_none behind s (Live changed tables) outcome = begun_behind_none behind (failing s) (RollingBack (Replies outcome)) refl
refused_at_none behind s InCommit outcome = begun_behind_none behind (failing s) (RollingBack (Replies outcome)) refl

refused_none : (behind : Bool) (s : Session) (outcome : Outcome) → None_is (refused behind s outcome)
refused_none behind s outcome = refused_at_none behind s s.gate outcome

stranded_none : (s : Session) → None_is (stranded s)
stranded_none s = released_none (failing s) s.gate (Replies (error_of no_backend))

stranded_in_none : (s : Session) (stage : Stage) → None_is (stranded_in s stage)
stranded_in_none s (Opening work) = stranded_none s
stranded_in_none s (Reading work ticket) = stranded_none s
stranded_in_none s (Running work) = stranded_none s
stranded_in_none s (Locking work table) = stranded_none s
stranded_in_none s (Inserting work sent) = stranded_none s
stranded_in_none s Committing = refl
stranded_in_none s Closing = stranded_none s
stranded_in_none s (RollingBack ending) = released_none s s.gate ending

started_as_none : (s : Session) (work : Work) (c : Class) → None_is (started_as s work c)
started_as_none s work classes.Read = refl
started_as_none s work classes.LockingRead = refl
started_as_none s work (classes.Write verb) = refl
started_as_none s work (classes.SerialInsert table) = refl

entering_none : (s : Session) (phase : GatePhase) (work : Work) → None_is (entering s phase work)
entering_none s Out work = refl
entering_none s InSnapshot work = started_as_none s work work.class
entering_none s (Live changed tables) work = started_as_none s work work.class
entering_none s InCommit work = started_as_none s work work.class

stated_none : (s : Session) (moment : ℤ) (work : Option Work) → None_is (stated s moment work)
stated_none s moment None = refused_none false s (error_of moment_out_of_range)
stated_none s moment (Some work) = entering_none (record s { moment = moment }) s.gate work

stated_at_none : (s : Session) (moment : ℤ) (work : Work) → None_is (stated_at s moment work)
unfolding stated_at
stated_at_none s moment work = stated_none s moment (rewritten moment work)

block_begun_none : (s : Session) (moment : ℤ) (status : Status) → None_is (block_begun s moment status)
unfolding block_begun
block_begun_none s moment Idle = refl
block_begun_none s moment InBlock = refl
block_begun_none s moment Failed = refl

-- Orders: a commit of nothing begins where no write has succeeded.

abbrev ClosesNothing : Session → Machine → Type 0
ClosesNothing s m = is_last_of (stage_at m.point) ≡ true → (has_changed s.gate ≡ false) × (stage_at m.point ≡ Some Closing)

closes_none : (s : Session) (m : Machine) → None_is m → ClosesNothing s m
closes_none s m none last = absurd (let both : false ≡ true = cc in cc)

committing_closes : (s : Session) (phase : GatePhase) (outcome : Outcome) → s.gate ≡ phase → ClosesNothing s (committing s phase outcome)
committing_closes s Out outcome is = closes_none s (committing s Out outcome) refl
committing_closes s InSnapshot outcome is = closes_none s (committing s InSnapshot outcome) refl
committing_closes s (Live true tables) outcome is = closes_none s (committing s (Live true tables) outcome) refl
committing_closes s (Live false tables) outcome is = λ last. (rw is refl, refl)
committing_closes s InCommit outcome is = closes_none s (committing s InCommit outcome) refl

committed_closes : (s : Session) (status : Status) → ClosesNothing s (block_committed s status)
unfolding block_committed
committed_closes s Idle = closes_none s (block_committed s Idle) refl
committed_closes s InBlock = committing_closes s s.gate (done_with tags.Commit) refl
committed_closes s Failed = closes_none s (block_committed s Failed) refl

settled_closes : (s : Session) (status : Status) → ClosesNothing s (settled s status)
unfolding settled
settled_closes s Idle = committing_closes s s.gate outcomes.Settled refl
settled_closes s InBlock = closes_none s (settled s InBlock) refl
settled_closes s Failed = closes_none s (settled s Failed) refl

rolled_back_none : (s : Session) (phase : GatePhase) → None_is (rolled_back s phase)
rolled_back_none s Out = refl
rolled_back_none s InSnapshot = refl
rolled_back_none s (Live changed tables) = refl
rolled_back_none s InCommit = refl

block_rolled_back_none : (s : Session) (status : Status) → None_is (block_rolled_back s status)
unfolding block_rolled_back
block_rolled_back_none s Idle = refl
block_rolled_back_none s InBlock = rolled_back_none s s.gate
block_rolled_back_none s Failed = refl

leaving_none : (s : Session) (phase : GatePhase) → None_is (leaving s phase)
leaving_none s Out = refl
leaving_none s InSnapshot = refl
leaving_none s (Live changed tables) = refl
leaving_none s InCommit = refl

left_in_none : (s : Session) (stage : Stage) → None_is (left_in s stage)
left_in_none s (Opening work) = leaving_none s s.gate
left_in_none s (Reading work ticket) = leaving_none s s.gate
left_in_none s (Running work) = leaving_none s s.gate
left_in_none s (Locking work table) = leaving_none s s.gate
left_in_none s (Inserting work sent) = leaving_none s s.gate
left_in_none s Committing = leaving_none s s.gate
left_in_none s Closing = leaving_none s s.gate
left_in_none s (RollingBack ending) = refl

left_lost_none : (s : Session) (stage : Stage) (b : BackendId) (before later : ℕ) → None_is (left_lost s stage b before later)
left_lost_none s (Opening work) b before later = refl
left_lost_none s (Reading work ticket) b before later = refl
left_lost_none s (Running work) b before later = refl
left_lost_none s (Locking work table) b before later = refl
left_lost_none s (Inserting work sent) b before later = refl
left_lost_none s Committing b before later = refl
left_lost_none s Closing b before later = refl
left_lost_none s (RollingBack ending) b before later = refl

left_none : (s : Session) (p : Point) → None_is (left s p)
unfolding left
left_none s (LookDue stage) = left_in_none s stage
left_none s (PostDue stage b) = left_in_none s stage
left_none s (Waiting stage b) = left_in_none s stage
left_none s (LostDue stage b before later) = left_lost_none s stage b before later
left_none s (SplitDue stage best own among more) = left_in_none s stage
left_none s Resting = leaving_none s s.gate
left_none s (EnterDue work) = leaving_none s s.gate
left_none s (ChooseDue work) = leaving_none s s.gate
left_none s ShowDue = leaving_none s s.gate
left_none s (LeaveSnapshotDue work) = leaving_none s s.gate
left_none s (UnwindDue ending) = refl
left_none s EnterCommitDue = leaving_none s s.gate
left_none s (LeaveCommitDue ending) = refl
left_none s (FinishDue ending) = refl
left_none s (ReplyDue outcome) = leaving_none s s.gate
left_none s EndDue = leaving_none s s.gate

ordered_closes : (s : Session) (p : Point) (moment : ℤ) (body : OrderBody) → ClosesNothing s (ordered s p moment body)
unfolding ordered
ordered_closes s p moment (orders.Statement checked) =
    let now : ℤ = moment_at s.status s.gate s.moment moment in
    closes_none s (stated_at s now (work_in checked)) (stated_at_none s now (work_in checked))
ordered_closes s p moment orders.Begin = closes_none s (block_begun s moment s.status) (block_begun_none s moment s.status)
ordered_closes s p moment orders.Commit = committed_closes s s.status
ordered_closes s p moment orders.Rollback = closes_none s (block_rolled_back s s.status) (block_rolled_back_none s s.status)
ordered_closes s p moment orders.Settle = settled_closes s s.status
ordered_closes s p moment orders.ShowNodes = closes_none s (due s ShowDue) refl
ordered_closes s p moment (orders.Recover b) = closes_none s (due s Resting) refl
ordered_closes s p moment (orders.Refuse code name) =
    closes_none s (refused false s (outcomes.Error code name)) (refused_none false s (outcomes.Error code name))
ordered_closes s p moment orders.Leave = closes_none s (left s p) (left_none s p)

-- The end of a chain begins no commit.

ran_none : (behind : Bool) (s : Session) (work : Work) (answer : Answer) → None_is (ran behind s work answer)
ran_none behind s work (answers.Refused code) = refused_none behind s (error_of code)
ran_none behind s work (answers.Rows rows) = refl
ran_none behind s work (answers.Count n) = refl
ran_none behind s work answers.Began = refl
ran_none behind s work answers.Locked = refl
ran_none behind s work answers.Done = refl
ran_none behind s work (answers.Serial n) = refl

opened_none : (behind : Bool) (s : Session) (work : Work) (refusal : Option Code) → None_is (opened behind s work refusal)
opened_none behind s work None = refl
opened_none behind s work (Some code) = refused_none behind s (error_of code)

locked_none : (behind : Bool) (s : Session) (work : Work) (refusal : Option Code) → None_is (locked behind s work refusal)
locked_none behind s work None = begun_behind_none behind s (Inserting work false) refl
locked_none behind s work (Some code) = refused_none behind s (error_of code)

closed_none : (behind : Bool) (s : Session) (stage : Stage) (answer : Answer) → None_is (closed behind s stage answer)
closed_none behind s (Opening work) answer = opened_none behind s work (refusal_of answer)
closed_none behind s (Reading work ticket) answer = ran_none behind s work answer
closed_none behind s (Running work) answer = ran_none behind s work answer
closed_none behind s (Locking work table) answer = locked_none behind s work (refusal_of answer)
closed_none behind s (Inserting work sent) answer = ran_none behind s work answer
closed_none behind s Committing answer = refl
closed_none behind s Closing answer = refl
closed_none behind s (RollingBack ending) answer = released_none s s.gate ending

decided_keeps : (behind : Bool) (s : Session) (stage : Stage) (answer : Answer) (more : Bool) → Keeps stage (decided behind s stage answer more)
decided_keeps behind s stage answer true = λ last. refl
decided_keeps behind s stage answer false = kept_none stage (closed behind s stage answer) (closed_none behind s stage answer)

split_keeps : (behind : Bool) (s : Session) (stage : Stage) (best : Heard) (among : BackendSet) (more : Bool) (other : Option Heard)
    → Keeps stage (split behind s stage best among more other)
split_keeps behind s stage best among more None = decided_keeps behind s stage best.answer more
split_keeps behind s stage best among more (Some own) = λ last. refl

judged_keeps : (s : Session) (stage : Stage) (h : Option Heard) → Keeps stage (judged s stage h)
judged_keeps s stage None = λ last. refl
judged_keeps s stage (Some best) =
    split_keeps true s stage best s.view.attached (goes_on s.view.attached.bits s.heard best.answer)
    (first_other s.view.attached.bits best.answer 0 s.heard)

asked_keeps : (s : Session) (stage : Stage) (next : Option BackendId) → Keeps stage (asked s stage next)
unfolding asked
asked_keeps s stage (Some b) = λ last. refl
asked_keeps s stage None = judged_keeps s stage (kept s.view.attached.bits s.heard)

reading_at_none : (s : Session) (work : Work) (ticket : ℕ) (b : Option BackendId) → None_is (reading_at s work ticket b)
reading_at_none s work ticket None = stranded_none s
reading_at_none s work ticket (Some b) = refl

chosen_none : (s : Session) (work : Work) (ticket : ℕ) → None_is (chosen s work ticket)
chosen_none s work ticket = reading_at_none s work ticket (reader s.policy s.view.attached.bits ticket)

read_at_none : (s : Session) (work : Work) (ticket : ℕ) (h : Heard) (t : Bool)
    → None_is (if t then closed true s (Reading work ticket) h.answer else chosen s work ticket)
read_at_none s work ticket h true = ran_none true s work h.answer
read_at_none s work ticket h false = chosen_none s work ticket

read_none : (s : Session) (work : Work) (ticket : ℕ) (heard : List Heard) → None_is (read s work ticket heard)
read_none s work ticket [] = chosen_none s work ticket
read_none s work ticket (h ∷ hs) = read_at_none s work ticket h (counts s.view.attached.bits h)

looked_keeps : (s : Session) (stage : Stage) → Keeps stage (looked s stage)
looked_keeps s (Reading work ticket) = kept_none (Reading work ticket) (looked s (Reading work ticket)) (read_none s work ticket s.heard)
looked_keeps s (Opening work) = asked_keeps s (Opening work) (next_of All s.view.attached.bits s.heard)
looked_keeps s (Running work) = asked_keeps s (Running work) (next_of StopAtRefusal s.view.attached.bits s.heard)
looked_keeps s (Locking work table) = asked_keeps s (Locking work table) (next_of StopAtRefusal s.view.attached.bits s.heard)
looked_keeps s (Inserting work sent) = asked_keeps s (Inserting work sent) (next_of All s.view.attached.bits s.heard)
looked_keeps s Committing = asked_keeps s Committing (next_of All s.view.attached.bits s.heard)
looked_keeps s Closing = asked_keeps s Closing (next_of All s.view.attached.bits s.heard)
looked_keeps s (RollingBack ending) = asked_keeps s (RollingBack ending) (next_of All s.view.attached.bits s.heard)

looked_at_keeps : (s : Session) (stage : Stage) (b : Option BackendId) → Keeps stage (looked_at s stage b)
looked_at_keeps s stage None = kept_none stage (stranded_in s stage) (stranded_in_none s stage)
looked_at_keeps s stage (Some b) = looked_keeps s stage

-- The gate's answers: only the entry into a commit begins one.

abbrev Came : Session → Point → Machine → Type 0
Came s p m = (stage_at m.point ≡ stage_at p) ⊎ ((p ≡ EnterCommitDue) × (stage_at m.point ≡ Some Committing))

abbrev Comes : Session → Point → Machine → Type 0
Comes s p m = is_last_of (stage_at m.point) ≡ true → Came s p m

none_comes : (s : Session) (p : Point) (m : Machine) → None_is m → Comes s p m
none_comes s p m none last = absurd (let both : false ≡ true = cc in cc)

keeps_comes : (s : Session) (p : Point) (stage : Stage) (m : Machine) → stage_at p ≡ Some stage → Keeps stage m → Comes s p m
keeps_comes s p stage m at keeps last = inl (rw at (keeps last))

first_chosen_none : (s : Session) (work : Work) (b : Option BackendId) → None_is (first_chosen s work b)
first_chosen_none s work None = stranded_none s
first_chosen_none s work (Some b) = chosen_none (counted_read s) work (ticket_of s s.policy.per_statement)

shown_none : (s : Session) (b : Option BackendId) → None_is (shown s b)
shown_none s None = stranded_none s
shown_none s (Some b) = refl

snapshot_entered_none : (s : Session) (work : Work) (b : Option BackendId) → None_is (snapshot_entered s work b)
snapshot_entered_none s work None = stranded_none s
snapshot_entered_none s work (Some b) = refl

snapshot_left_none : (s : Session) (work : Work) (b : Option BackendId) → None_is (snapshot_left s work b)
snapshot_left_none s work None = stranded_none s
snapshot_left_none s work (Some b) = started_as_none s work work.class

commit_entered_comes : (s t : Session) (b : Option BackendId) → Comes s EnterCommitDue (commit_entered t b)
commit_entered_comes s t None = none_comes s EnterCommitDue (commit_entered t None) refl
commit_entered_comes s t (Some b) = λ last. inr (refl, refl)

granted_comes : (s t : Session) (p : Point) → Comes s p (granted t p)
unfolding granted
granted_comes s t (EnterDue work) =
    none_comes s (EnterDue work) (granted t (EnterDue work)) (snapshot_entered_none (in_phase t InSnapshot) work (primary t))
granted_comes s t (LookDue stage) = keeps_comes s (LookDue stage) stage (granted t (LookDue stage)) refl (looked_at_keeps t stage (primary t))
granted_comes s t (ChooseDue work) = none_comes s (ChooseDue work) (granted t (ChooseDue work)) (first_chosen_none t work (primary t))
granted_comes s t ShowDue = none_comes s ShowDue (granted t ShowDue) (shown_none t (primary t))
granted_comes s t (LeaveSnapshotDue work) =
    none_comes s (LeaveSnapshotDue work) (granted t (LeaveSnapshotDue work)) (snapshot_left_none (in_phase t (Live false 0)) work (primary t))
granted_comes s t (UnwindDue ending) = λ last. inl refl
granted_comes s t EnterCommitDue = commit_entered_comes s (in_phase t InCommit) (primary t)
granted_comes s t (LeaveCommitDue ending) =
    none_comes s (LeaveCommitDue ending) (granted t (LeaveCommitDue ending)) (ended_none (in_phase t Out) ending)
granted_comes s t (FinishDue ending) = none_comes s (FinishDue ending) (granted t (FinishDue ending)) (ended_none (in_phase t Out) ending)
granted_comes s t Resting = λ last. inl refl
granted_comes s t (PostDue stage b) = λ last. inl refl
granted_comes s t (Waiting stage b) = λ last. inl refl
granted_comes s t (LostDue stage b before later) = λ last. inl refl
granted_comes s t (SplitDue stage best own among more) = λ last. inl refl
granted_comes s t (ReplyDue outcome) = λ last. inl refl
granted_comes s t EndDue = λ last. inl refl

-- what an event leads to
abbrev Leads : Session → Point → SessionEvent → Machine → Type 0
Leads s p event m =
    (stage_at m.point ≡ stage_at p)
    ⊎ ((IsEntry event × (stage_at m.point ≡ Some Committing)) ⊎ ((has_changed s.gate ≡ false) × (stage_at m.point ≡ Some Closing)))

abbrev Entry : Session → Point → GateCall → View → Type 0
Entry s p call v = IsEntry (events.Called call (Granted v))

entry_of : (s : Session) (p : Point) (call : GateCall) (v : View) → p ≡ EnterCommitDue → action_at s p ≡ actions.Gate call
    → IsEntry (events.Called call (Granted v))
entry_of s p call v is asks =
    let at : action_at s EnterCommitDue ≡ actions.Gate call = subst (λ (q : Point). action_at s q ≡ actions.Gate call) is asks in
    let same : calls.EnterCommit (tables_of s.gate) ≡ call = cc in
    (tables_of s.gate, v, ap (λ (c : GateCall). events.Called c (Granted v)) (sym same))

called_leads : (s : Session) (p : Point) (call : GateCall) (v : View) (m : Machine) → action_at s p ≡ actions.Gate call → Came s p m
    → Leads s p (events.Called call (Granted v)) m
called_leads s p call v m asks (inl same) = inl same
called_leads s p call v m asks (inr (is, commits)) = inr (inl (entry_of s p call v is asks, commits))

-- a Look enters nothing
enter_unseen : (s : Session) (p : Point) (call : GateCall) (v : View) → p ≡ EnterCommitDue → action_at s p ≡ actions.Gate call
    → answers_call call (Seen v) ≡ true → ⊥
enter_unseen s p call v is asks fits =
    let at : action_at s EnterCommitDue ≡ actions.Gate call = subst (λ (q : Point). action_at s q ≡ actions.Gate call) is asks in
    let same : calls.EnterCommit (tables_of s.gate) ≡ call = cc in
    let bad : answers_call (calls.EnterCommit (tables_of s.gate)) (Seen v) ≡ true =
    subst (λ (c : GateCall). answers_call c (Seen v) ≡ true) (sym same) fits in
    cc

seen_leads : (s : Session) (p : Point) (call : GateCall) (v : View) (m : Machine) → action_at s p ≡ actions.Gate call
    → answers_call call (Seen v) ≡ true → Came s p m → Leads s p (events.Called call (Seen v)) m
seen_leads s p call v m asks fits (inl same) = inl same
seen_leads s p call v m asks fits (inr (is, commits)) = absurd (enter_unseen s p call v is asks fits)

called_comes : (s : Session) (p : Point) (call : GateCall) (answer : GateAnswer) → action_at s p ≡ actions.Gate call → answers_call call answer ≡ true
    → is_last_of (stage_at (called s p answer).point) ≡ true → Leads s p (events.Called call answer) (called s p answer)
unfolding called
called_comes s p call (Seen v) asks fits last =
    seen_leads s p call v (granted (with_view s v) p) asks fits (granted_comes s (with_view s v) p last)
called_comes s p call (Granted v) asks fits last =
    called_leads s p call v (granted (with_view s v) p) asks (granted_comes s (with_view s v) p last)
called_comes s p call (Held count) asks fits last = inl refl
called_comes s p call Spent asks fits last =
    absurd (let none : is_last_of (stage_at (refused false s (error_of counts_spent)).point) ≡ false = refused_none false s (error_of counts_spent) in
    let both : false ≡ true = cc in cc)

-- Posts, answers, losses, detachments.

posted_stage : (stage : Stage) → is_last (stage_posted stage) ≡ true → Some (stage_posted stage) ≡ Some stage
posted_stage (Opening work) last = refl
posted_stage (Reading work ticket) last = refl
posted_stage (Running work) last = refl
posted_stage (Locking work table) last = refl
posted_stage (Inserting work sent) last = absurd (cc)
posted_stage Committing last = refl
posted_stage Closing last = refl
posted_stage (RollingBack ending) last = refl

abbrev Stays : Point → Machine → Type 0
Stays p m = is_last_of (stage_at m.point) ≡ true → stage_at m.point ≡ stage_at p

posted_keeps : (s : Session) (p : Point) → Stays p (posted s p)
posted_keeps s (PostDue stage b) = posted_stage stage
posted_keeps s Resting = λ last. refl
posted_keeps s (EnterDue work) = λ last. refl
posted_keeps s (LookDue stage) = λ last. refl
posted_keeps s (Waiting stage b) = λ last. refl
posted_keeps s (LostDue stage b before later) = λ last. refl
posted_keeps s (SplitDue stage best own among more) = λ last. refl
posted_keeps s (ChooseDue work) = λ last. refl
posted_keeps s ShowDue = λ last. refl
posted_keeps s (LeaveSnapshotDue work) = λ last. refl
posted_keeps s (UnwindDue ending) = λ last. refl
posted_keeps s EnterCommitDue = λ last. refl
posted_keeps s (LeaveCommitDue ending) = λ last. refl
posted_keeps s (FinishDue ending) = λ last. refl
posted_keeps s (ReplyDue outcome) = λ last. refl
posted_keeps s EndDue = λ last. refl

taken_keeps : (s : Session) (b : BackendId) (answer : Answer) (p : Point) → stage_at (taken s b answer p).point ≡ stage_at p
taken_keeps s b answer Resting = refl
taken_keeps s b answer (EnterDue work) = refl
taken_keeps s b answer (LookDue stage) = refl
taken_keeps s b answer (PostDue stage c) = refl
taken_keeps s b answer (Waiting stage c) = refl
taken_keeps s b answer (LostDue stage c before later) = refl
taken_keeps s b answer (SplitDue stage best own among more) = refl
taken_keeps s b answer (ChooseDue work) = refl
taken_keeps s b answer ShowDue = refl
taken_keeps s b answer (LeaveSnapshotDue work) = refl
taken_keeps s b answer (UnwindDue ending) = refl
taken_keeps s b answer EnterCommitDue = refl
taken_keeps s b answer (LeaveCommitDue ending) = refl
taken_keeps s b answer (FinishDue ending) = refl
taken_keeps s b answer (ReplyDue outcome) = refl
taken_keeps s b answer EndDue = refl

faulted_keeps : (s : Session) (before later : ℕ) (p : Point) → stage_at (faulted s before later p).point ≡ stage_at p
faulted_keeps s before later Resting = refl
faulted_keeps s before later (EnterDue work) = refl
faulted_keeps s before later (LookDue stage) = refl
faulted_keeps s before later (PostDue stage c) = refl
faulted_keeps s before later (Waiting stage c) = refl
faulted_keeps s before later (LostDue stage c x y) = refl
faulted_keeps s before later (SplitDue stage best own among more) = refl
faulted_keeps s before later (ChooseDue work) = refl
faulted_keeps s before later ShowDue = refl
faulted_keeps s before later (LeaveSnapshotDue work) = refl
faulted_keeps s before later (UnwindDue ending) = refl
faulted_keeps s before later EnterCommitDue = refl
faulted_keeps s before later (LeaveCommitDue ending) = refl
faulted_keeps s before later (FinishDue ending) = refl
faulted_keeps s before later (ReplyDue outcome) = refl
faulted_keeps s before later EndDue = refl

lost_one_keeps : (s : Session) (stage : Stage) (b : Option BackendId) → Keeps stage (lost_one s stage b)
lost_one_keeps s stage None = kept_none stage (stranded_in s stage) (stranded_in_none s stage)
lost_one_keeps s stage (Some b) = λ last. refl

parted_keeps : (s : Session) (stage : Stage) (best own : Heard) (among : BackendSet) (more : Bool) (b : Option BackendId)
    → Keeps stage (parted s stage best own among more b)
parted_keeps s stage best own among more None = kept_none stage (stranded_in s stage) (stranded_in_none s stage)
parted_keeps s stage best own among more (Some b) =
    split_keeps false s stage best among more (first_other among.bits best.answer (own.b.number + 1) s.heard)

parted_at_keeps : (s : Session) (p : Point) → Stays p (parted_at s p)
parted_at_keeps s (LostDue stage b before later) = lost_one_keeps s stage (primary s)
parted_at_keeps s (SplitDue stage best own among more) = parted_keeps s stage best own among more (primary s)
parted_at_keeps s Resting = λ last. refl
parted_at_keeps s (EnterDue work) = λ last. refl
parted_at_keeps s (LookDue stage) = λ last. refl
parted_at_keeps s (PostDue stage b) = λ last. refl
parted_at_keeps s (Waiting stage b) = λ last. refl
parted_at_keeps s (ChooseDue work) = λ last. refl
parted_at_keeps s ShowDue = λ last. refl
parted_at_keeps s (LeaveSnapshotDue work) = λ last. refl
parted_at_keeps s (UnwindDue ending) = λ last. refl
parted_at_keeps s EnterCommitDue = λ last. refl
parted_at_keeps s (LeaveCommitDue ending) = λ last. refl
parted_at_keeps s (FinishDue ending) = λ last. refl
parted_at_keeps s (ReplyDue outcome) = λ last. refl
parted_at_keeps s EndDue = λ last. refl

detached_keeps : (s : Session) (p : Point) (answer : GateAnswer) → Stays p (detached s p answer)
unfolding detached
detached_keeps s p (Seen v) = parted_at_keeps (with_view s v) p
detached_keeps s p (Granted v) = parted_at_keeps (with_view s v) p
detached_keeps s p (Held count) = λ last. refl
detached_keeps s p Spent = λ last. refl

-- Every event.

leads_at : (s : Session) (p : Point) (event : SessionEvent) → MayHappen (due s p) event
    → is_last_of (stage_at (after_at s p event).point) ≡ true → Leads s p event (after_at s p event)
unfolding after_at
leads_at s p (events.Ordered order) may last = inr (inr (ordered_closes s p order.moment order.body last))
leads_at s p (events.Called call answer) may last = called_comes s p call answer may.0 may.1 last
leads_at s p (events.Posted b request) may last = inl (posted_keeps s p last)
leads_at s p (events.Taken b answer) may last = inl (taken_keeps s b answer p)
leads_at s p (events.Faulted b before later) may last = inl (faulted_keeps s before later p)
leads_at s p (events.Detached b cause answer) may last = inl (detached_keeps s p answer last)
leads_at s p (events.Swapped b) may last = absurd may
leads_at s p (events.Replied outcome status) may last = absurd (cc)
leads_at s p events.Ended may last = absurd (cc)

last_of : (o : Option Stage) (stage : Stage) → o ≡ Some stage → is_last stage ≡ true → is_last_of o ≡ true
last_of o stage is last = rw is last

entry_case : (s : Session) (p : Point) (event : SessionEvent) (m : Machine) → stage_at m.point ≡ Some Committing → Leads s p event m
    → ((stage_at p ≡ Some Committing) ⊎ IsEntry event)
entry_case s p event m commits (inl same) = inl (rw (sym same) commits)
entry_case s p event m commits (inr (inl (entry, at))) = inr entry
entry_case s p event m commits (inr (inr (nothing, closes))) = absurd (let both : Some Committing ≡ Some Closing = cc in cc)

pub entries : (m : Machine) (event : SessionEvent) → MayHappen m event → Commits (after m event).point → (Commits m.point ⊎ IsEntry event)
entries m event may commits =
    entry_case m.session m.point event (after m event) commits
    (leads_at m.session m.point event may (last_of (stage_at (after m event).point) Committing commits refl))

nothing_case : (s : Session) (p : Point) (event : SessionEvent) (m : Machine) → stage_at m.point ≡ Some Closing → Leads s p event m
    → ((stage_at p ≡ Some Closing) ⊎ (has_changed s.gate ≡ false))
nothing_case s p event m closes (inl same) = inl (rw (sym same) closes)
nothing_case s p event m closes (inr (inl (entry, at))) = absurd (let both : Some Committing ≡ Some Closing = cc in cc)
nothing_case s p event m closes (inr (inr (nothing, at))) = inr nothing

pub nothings : (m : Machine) (event : SessionEvent) → MayHappen m event → Closes (after m event).point
    → (Closes m.point ⊎ (has_changed m.session.gate ≡ false))
nothings m event may closes =
    nothing_case m.session m.point event (after m event) closes
    (leads_at m.session m.point event may (last_of (stage_at (after m event).point) Closing closes refl))
