-- A tidied session is due what the session is due, may take the same events, and leads where it leads.
use Rattle.std.proofs.Common.{◌≡◌, ℕ, ℤ, true, false, List, [], ◌∷◌, Some, None, refl, sym, ◌∙◌, ap, subst, ◌↔◌}
use Rattle.std.specs.Prelude.{Option}
use Rattle.pool_base.specs.declared.backend_id.BackendId.{BackendId}
use Rattle.pool_base.specs.declared.gate_call.View.{View}
use Rattle.pool_base.specs.declared.gate_call.GateAnswer.{GateAnswer}
use Rattle.pool_base.specs.declared.gate_call.GateAnswer.TheVariants.{Seen, Granted, Held, Spent}
use Rattle.backend_trait.specs.declared.answer.Answer.{Answer}
use Rattle.session_machine.specs.declared.work.Class.{Class}
use Rattle.session_machine.specs.declared.work.Class.TheVariants as classes
use Rattle.session_machine.specs.declared.work.Work.{Work}
use Rattle.session_orders.specs.declared.order.OrderBody.{OrderBody}
use Rattle.session_orders.specs.declared.order.OrderBody.TheVariants as orders
use Rattle.session_orders.specs.declared.outcome.Tag.TheVariants as tags
use Rattle.session_orders.specs.declared.outcome.Outcome.{Outcome}
use Rattle.session_orders.specs.declared.outcome.Outcome.TheVariants as outcomes
use Rattle.session_machine.specs.declared.status.Status.{Status}
use Rattle.session_machine.specs.declared.status.Status.TheVariants.{Idle, InBlock, Failed}
use Rattle.session_machine.specs.declared.action.SessionEvent.{SessionEvent}
use Rattle.session_machine.specs.declared.action.SessionEvent.TheVariants as events
use Rattle.session_machine.specs.declared.machine.GatePhase.{GatePhase}
use Rattle.session_machine.specs.declared.machine.GatePhase.TheVariants.{Out, InSnapshot, Live, InCommit}
use Rattle.session_machine.specs.declared.machine.Ending.{Ending}
use Rattle.session_machine.specs.declared.machine.Ending.TheVariants.{Replies, Leaves}
use Rattle.session_machine.specs.declared.machine.Point.{Point}
use Rattle.session_machine.specs.declared.machine.Point.TheVariants.{Resting, EnterDue, LookDue, PostDue, Waiting, LostDue, SplitDue, ChooseDue, ShowDue, LeaveSnapshotDue, UnwindDue, EnterCommitDue, LeaveCommitDue, FinishDue, ReplyDue, EndDue}
use Rattle.session_machine.specs.declared.machine.Session.{Session}
use Rattle.session_machine.specs.declared.machine.Machine.{Machine}
use Rattle.session_machine.specs.Allowed.{MayHappen, may_order}
use Rattle.session_machine.specs.Codes.{moment_out_of_range, counts_spent, no_backend}
use Rattle.session_machine.specs.Classes.{work_in}
use Rattle.session_machine.specs.Answers.{reader}
use Rattle.session_machine.specs.Rules.{due, new_machine, primary, action_at, next_action, posted, taken, faulted, ended, released, failing, refused_at, stranded, started_as, rewritten, entering, stated, stated_at, moment_at, block_begun, committing, block_committed, rolled_back, block_rolled_back, settled, leaving, left, ordered, error_of, done_with, reading_at, chosen, first_chosen, ticket_of, counted_read, shown, snapshot_entered, snapshot_left, commit_entered, with_view, in_phase, granted, called, parted_at, detached, after, after_at}
use Rattle.session_engine.specs.Handing.{handed}
use Rattle.session_engine.specs.Tidying.{bare, tidied_at, tidied, after_all}

-- the same but for answers that nothing reads
abbrev Alike : Machine → Machine → Type 0
Alike m n = tidied m ≡ tidied n

ended_alike : (s : Session) (ending : Ending) → Alike (ended (bare s) ending) (ended s ending)
ended_alike s (Replies outcome) = refl
ended_alike s Leaves = refl

released_alike : (s : Session) (phase : GatePhase) (ending : Ending) → Alike (released (bare s) phase ending) (released s phase ending)
released_alike s Out ending = ended_alike s ending
released_alike s InSnapshot ending = refl
released_alike s (Live changed tables) ending = refl
released_alike s InCommit ending = refl

stranded_alike : (s : Session) → Alike (stranded (bare s)) (stranded s)
stranded_alike s = released_alike (failing s) s.gate (Replies (error_of no_backend))

refused_alike : (s : Session) (phase : GatePhase) (outcome : Outcome) → Alike (refused_at false (bare s) phase outcome) (refused_at false s phase outcome)
refused_alike s Out outcome = refl
refused_alike s InSnapshot outcome = refl
refused_alike s (Live changed tables) outcome = refl
refused_alike s InCommit outcome = refl

-- Orders.

started_alike : (s : Session) (work : Work) (class : Class) → Alike (started_as (bare s) work class) (started_as s work class)
started_alike s work classes.Read = refl
started_alike s work classes.LockingRead = refl
started_alike s work (classes.Write verb) = refl
started_alike s work (classes.SerialInsert table) = refl

entering_alike : (s : Session) (phase : GatePhase) (work : Work) → Alike (entering (bare s) phase work) (entering s phase work)
entering_alike s Out work = refl
entering_alike s InSnapshot work = started_alike s work work.class
entering_alike s (Live changed tables) work = started_alike s work work.class
entering_alike s InCommit work = started_alike s work work.class

stated_alike : (s : Session) (moment : ℤ) (work : Option Work) → Alike (stated (bare s) moment work) (stated s moment work)
stated_alike s moment None = refused_alike s s.gate (error_of moment_out_of_range)
stated_alike s moment (Some work) = entering_alike (record s { moment = moment }) s.gate work

stated_at_alike : (s : Session) (moment : ℤ) (work : Work) → Alike (stated_at (bare s) moment work) (stated_at s moment work)
unfolding stated_at
stated_at_alike s moment work = stated_alike s moment (rewritten moment work)

block_begun_alike : (s : Session) (moment : ℤ) (status : Status) → Alike (block_begun (bare s) moment status) (block_begun s moment status)
unfolding block_begun
block_begun_alike s moment Idle = refl
block_begun_alike s moment InBlock = refl
block_begun_alike s moment Failed = refl

committing_alike : (s : Session) (phase : GatePhase) (outcome : Outcome) → Alike (committing (bare s) phase outcome) (committing s phase outcome)
committing_alike s Out outcome = refl
committing_alike s InSnapshot outcome = refl
committing_alike s (Live true tables) outcome = refl
committing_alike s (Live false tables) outcome = refl
committing_alike s InCommit outcome = refl

block_committed_alike : (s : Session) (status : Status) → Alike (block_committed (bare s) status) (block_committed s status)
unfolding block_committed
block_committed_alike s Idle = refl
block_committed_alike s InBlock = committing_alike s s.gate (done_with tags.Commit)
block_committed_alike s Failed = refl

rolled_back_alike : (s : Session) (phase : GatePhase) → Alike (rolled_back (bare s) phase) (rolled_back s phase)
rolled_back_alike s Out = refl
rolled_back_alike s InSnapshot = refl
rolled_back_alike s (Live changed tables) = refl
rolled_back_alike s InCommit = refl

block_rolled_back_alike : (s : Session) (status : Status) → Alike (block_rolled_back (bare s) status) (block_rolled_back s status)
unfolding block_rolled_back
block_rolled_back_alike s Idle = refl
block_rolled_back_alike s InBlock = rolled_back_alike s s.gate
block_rolled_back_alike s Failed = refl

settled_alike : (s : Session) (status : Status) → Alike (settled (bare s) status) (settled s status)
unfolding settled
settled_alike s Idle = committing_alike s s.gate outcomes.Settled
settled_alike s InBlock = refl
settled_alike s Failed = refl

leaving_alike : (s : Session) (phase : GatePhase) → Alike (leaving (bare s) phase) (leaving s phase)
leaving_alike s Out = refl
leaving_alike s InSnapshot = refl
leaving_alike s (Live changed tables) = refl
leaving_alike s InCommit = refl

-- What is due is the same, and its session has its answers, or is bare.

point_same : (s : Session) (p : Point) → (tidied_at s p).point ≡ p
point_same s Resting = refl
point_same s (EnterDue work) = refl
point_same s (LookDue stage) = refl
point_same s (PostDue stage c) = refl
point_same s (Waiting stage c) = refl
point_same s (LostDue stage c x y) = refl
point_same s (SplitDue stage best own among more) = refl
point_same s (ChooseDue work) = refl
point_same s ShowDue = refl
point_same s (LeaveSnapshotDue work) = refl
point_same s (UnwindDue ending) = refl
point_same s EnterCommitDue = refl
point_same s (LeaveCommitDue ending) = refl
point_same s (FinishDue ending) = refl
point_same s (ReplyDue outcome) = refl
point_same s EndDue = refl

session_same : (Q : Session → Type 0) (s : Session) (p : Point) → Q s → Q (bare s) → Q (tidied_at s p).session
session_same Q s Resting with_answers without = without
session_same Q s (EnterDue work) with_answers without = without
session_same Q s (LookDue stage) with_answers without = with_answers
session_same Q s (PostDue stage c) with_answers without = with_answers
session_same Q s (Waiting stage c) with_answers without = with_answers
session_same Q s (LostDue stage c x y) with_answers without = with_answers
session_same Q s (SplitDue stage best own among more) with_answers without = with_answers
session_same Q s (ChooseDue work) with_answers without = without
session_same Q s ShowDue with_answers without = without
session_same Q s (LeaveSnapshotDue work) with_answers without = without
session_same Q s (UnwindDue ending) with_answers without = without
session_same Q s EnterCommitDue with_answers without = without
session_same Q s (LeaveCommitDue ending) with_answers without = without
session_same Q s (FinishDue ending) with_answers without = without
session_same Q s (ReplyDue outcome) with_answers without = without
session_same Q s EndDue with_answers without = without

again : (s : Session) (p : Point) → tidied (tidied_at s p) ≡ tidied_at s p
again s Resting = refl
again s (EnterDue work) = refl
again s (LookDue stage) = refl
again s (PostDue stage c) = refl
again s (Waiting stage c) = refl
again s (LostDue stage c x y) = refl
again s (SplitDue stage best own among more) = refl
again s (ChooseDue work) = refl
again s ShowDue = refl
again s (LeaveSnapshotDue work) = refl
again s (UnwindDue ending) = refl
again s EnterCommitDue = refl
again s (LeaveCommitDue ending) = refl
again s (FinishDue ending) = refl
again s (ReplyDue outcome) = refl
again s EndDue = refl

action_same : (s : Session) (p : Point) → next_action (tidied_at s p) ≡ action_at s p
action_same s Resting = refl
action_same s (EnterDue work) = refl
action_same s (LookDue stage) = refl
action_same s (PostDue stage c) = refl
action_same s (Waiting stage c) = refl
action_same s (LostDue stage c x y) = refl
action_same s (SplitDue stage best own among more) = refl
action_same s (ChooseDue work) = refl
action_same s ShowDue = refl
action_same s (LeaveSnapshotDue work) = refl
action_same s (UnwindDue ending) = refl
action_same s EnterCommitDue = refl
action_same s (LeaveCommitDue ending) = refl
action_same s (FinishDue ending) = refl
action_same s (ReplyDue outcome) = refl
action_same s EndDue = refl

-- the session of a tidied machine
abbrev Tidy : (Session → Point → Machine) → Session → Point → Type 0
Tidy f s p = Alike (f (tidied_at s p).session p) (f s p)

due_alike : (s : Session) (p : Point) → Tidy due s p
due_alike s Resting = refl
due_alike s (EnterDue work) = refl
due_alike s (LookDue stage) = refl
due_alike s (PostDue stage c) = refl
due_alike s (Waiting stage c) = refl
due_alike s (LostDue stage c x y) = refl
due_alike s (SplitDue stage best own among more) = refl
due_alike s (ChooseDue work) = refl
due_alike s ShowDue = refl
due_alike s (LeaveSnapshotDue work) = refl
due_alike s (UnwindDue ending) = refl
due_alike s EnterCommitDue = refl
due_alike s (LeaveCommitDue ending) = refl
due_alike s (FinishDue ending) = refl
due_alike s (ReplyDue outcome) = refl
due_alike s EndDue = refl

left_alike : (s : Session) (p : Point) → Tidy left s p
unfolding left
left_alike s Resting = leaving_alike s s.gate
left_alike s (EnterDue work) = leaving_alike s s.gate
left_alike s (LookDue stage) = refl
left_alike s (PostDue stage c) = refl
left_alike s (Waiting stage c) = refl
left_alike s (LostDue stage c x y) = refl
left_alike s (SplitDue stage best own among more) = refl
left_alike s (ChooseDue work) = leaving_alike s s.gate
left_alike s ShowDue = leaving_alike s s.gate
left_alike s (LeaveSnapshotDue work) = leaving_alike s s.gate
left_alike s (UnwindDue ending) = refl
left_alike s EnterCommitDue = leaving_alike s s.gate
left_alike s (LeaveCommitDue ending) = refl
left_alike s (FinishDue ending) = refl
left_alike s (ReplyDue outcome) = leaving_alike s s.gate
left_alike s EndDue = leaving_alike s s.gate

ordered_alike : (s : Session) (p : Point) (moment : ℤ) (body : OrderBody) → Alike (ordered (tidied_at s p).session p moment body) (ordered s p moment body)
unfolding ordered
ordered_alike s p moment (orders.Statement checked) =
    let work = work_in checked in
    session_same (λ (x : Session). Alike (stated_at x (moment_at x.status x.gate x.moment moment) work) (stated_at s (moment_at s.status s.gate s.moment moment) work)) s p refl
    (stated_at_alike s (moment_at s.status s.gate s.moment moment) work)
ordered_alike s p moment orders.Begin =
    session_same (λ (x : Session). Alike (block_begun x moment x.status) (block_begun s moment s.status)) s p refl (block_begun_alike s moment s.status)
ordered_alike s p moment orders.Commit =
    session_same (λ (x : Session). Alike (block_committed x x.status) (block_committed s s.status)) s p refl (block_committed_alike s s.status)
ordered_alike s p moment orders.Rollback =
    session_same (λ (x : Session). Alike (block_rolled_back x x.status) (block_rolled_back s s.status)) s p refl (block_rolled_back_alike s s.status)
ordered_alike s p moment orders.Settle =
    session_same (λ (x : Session). Alike (settled x x.status) (settled s s.status)) s p refl (settled_alike s s.status)
ordered_alike s p moment orders.ShowNodes = session_same (λ (x : Session). Alike (due x ShowDue) (due s ShowDue)) s p refl refl
ordered_alike s p moment (orders.Recover b) = session_same (λ (x : Session). Alike (due x Resting) (due s Resting)) s p refl refl
ordered_alike s p moment (orders.Refuse code name) =
    session_same (λ (x : Session). Alike (refused_at false x x.gate (outcomes.Error code name)) (refused_at false s s.gate (outcomes.Error code name))) s p refl
    (refused_alike s s.gate (outcomes.Error code name))
ordered_alike s p moment orders.Leave = left_alike s p

-- The gate's answers.

reading_alike : (s : Session) (work : Work) (ticket : ℕ) (b : Option BackendId) → Alike (reading_at (bare s) work ticket b) (reading_at s work ticket b)
reading_alike s work ticket None = stranded_alike s
reading_alike s work ticket (Some b) = refl

chosen_alike : (s : Session) (work : Work) (ticket : ℕ) → Alike (chosen (bare s) work ticket) (chosen s work ticket)
chosen_alike s work ticket = reading_alike s work ticket (reader s.policy s.view.attached.bits ticket)

first_alike : (s : Session) (work : Work) (b : Option BackendId) → Alike (first_chosen (bare s) work b) (first_chosen s work b)
first_alike s work None = stranded_alike s
first_alike s work (Some b) = chosen_alike (counted_read s) work (ticket_of s s.policy.per_statement)

shown_alike : (s : Session) (b : Option BackendId) → Alike (shown (bare s) b) (shown s b)
shown_alike s None = stranded_alike s
shown_alike s (Some b) = refl

opened_alike : (s : Session) (work : Work) (b : Option BackendId) → Alike (snapshot_entered (bare s) work b) (snapshot_entered s work b)
opened_alike s work None = stranded_alike s
opened_alike s work (Some b) = refl

begun_alike : (s : Session) (work : Work) (b : Option BackendId) → Alike (snapshot_left (bare s) work b) (snapshot_left s work b)
begun_alike s work None = stranded_alike s
begun_alike s work (Some b) = started_alike s work work.class

commits_alike : (s : Session) (b : Option BackendId) → Alike (commit_entered (bare s) b) (commit_entered s b)
commits_alike s None = refl
commits_alike s (Some b) = refl

granted_alike : (s : Session) (view : View) (p : Point) → Alike (granted (with_view (tidied_at s p).session view) p) (granted (with_view s view) p)
unfolding granted
granted_alike s view Resting = refl
granted_alike s view (EnterDue work) = opened_alike (in_phase (with_view s view) InSnapshot) work (primary (with_view s view))
granted_alike s view (LookDue stage) = refl
granted_alike s view (PostDue stage c) = refl
granted_alike s view (Waiting stage c) = refl
granted_alike s view (LostDue stage c x y) = refl
granted_alike s view (SplitDue stage best own among more) = refl
granted_alike s view (ChooseDue work) = first_alike (with_view s view) work (primary (with_view s view))
granted_alike s view ShowDue = shown_alike (with_view s view) (primary (with_view s view))
granted_alike s view (LeaveSnapshotDue work) = begun_alike (in_phase (with_view s view) (Live false 0)) work (primary (with_view s view))
granted_alike s view (UnwindDue ending) = refl
granted_alike s view EnterCommitDue = commits_alike (in_phase (with_view s view) InCommit) (primary (with_view s view))
granted_alike s view (LeaveCommitDue ending) = ended_alike (in_phase (with_view s view) Out) ending
granted_alike s view (FinishDue ending) = ended_alike (in_phase (with_view s view) Out) ending
granted_alike s view (ReplyDue outcome) = refl
granted_alike s view EndDue = refl

called_alike : (s : Session) (p : Point) (answer : GateAnswer) → Alike (called (tidied_at s p).session p answer) (called s p answer)
unfolding called
called_alike s p (Seen view) = granted_alike s view p
called_alike s p (Granted view) = granted_alike s view p
called_alike s p (Held count) = due_alike s p
called_alike s p Spent =
    session_same (λ (x : Session). Alike (refused_at false x x.gate (error_of counts_spent)) (refused_at false s s.gate (error_of counts_spent))) s p refl
    (refused_alike s s.gate (error_of counts_spent))

parted_alike : (s : Session) (view : View) (p : Point) → Alike (parted_at (with_view (tidied_at s p).session view) p) (parted_at (with_view s view) p)
parted_alike s view Resting = refl
parted_alike s view (EnterDue work) = refl
parted_alike s view (LookDue stage) = refl
parted_alike s view (PostDue stage c) = refl
parted_alike s view (Waiting stage c) = refl
parted_alike s view (LostDue stage c x y) = refl
parted_alike s view (SplitDue stage best own among more) = refl
parted_alike s view (ChooseDue work) = refl
parted_alike s view ShowDue = refl
parted_alike s view (LeaveSnapshotDue work) = refl
parted_alike s view (UnwindDue ending) = refl
parted_alike s view EnterCommitDue = refl
parted_alike s view (LeaveCommitDue ending) = refl
parted_alike s view (FinishDue ending) = refl
parted_alike s view (ReplyDue outcome) = refl
parted_alike s view EndDue = refl

detached_alike : (s : Session) (p : Point) (answer : GateAnswer) → Alike (detached (tidied_at s p).session p answer) (detached s p answer)
unfolding detached
detached_alike s p (Seen view) = parted_alike s view p
detached_alike s p (Granted view) = parted_alike s view p
detached_alike s p (Held count) = due_alike s p
detached_alike s p Spent = due_alike s p

-- Posts, answers and losses.

posted_alike : (s : Session) (p : Point) → Tidy posted s p
posted_alike s Resting = refl
posted_alike s (EnterDue work) = refl
posted_alike s (LookDue stage) = refl
posted_alike s (PostDue stage c) = refl
posted_alike s (Waiting stage c) = refl
posted_alike s (LostDue stage c x y) = refl
posted_alike s (SplitDue stage best own among more) = refl
posted_alike s (ChooseDue work) = refl
posted_alike s ShowDue = refl
posted_alike s (LeaveSnapshotDue work) = refl
posted_alike s (UnwindDue ending) = refl
posted_alike s EnterCommitDue = refl
posted_alike s (LeaveCommitDue ending) = refl
posted_alike s (FinishDue ending) = refl
posted_alike s (ReplyDue outcome) = refl
posted_alike s EndDue = refl

taken_alike : (s : Session) (b : BackendId) (answer : Answer) (p : Point) → Alike (taken (tidied_at s p).session b answer p) (taken s b answer p)
taken_alike s b answer Resting = refl
taken_alike s b answer (EnterDue work) = refl
taken_alike s b answer (LookDue stage) = refl
taken_alike s b answer (PostDue stage c) = refl
taken_alike s b answer (Waiting stage c) = refl
taken_alike s b answer (LostDue stage c x y) = refl
taken_alike s b answer (SplitDue stage best own among more) = refl
taken_alike s b answer (ChooseDue work) = refl
taken_alike s b answer ShowDue = refl
taken_alike s b answer (LeaveSnapshotDue work) = refl
taken_alike s b answer (UnwindDue ending) = refl
taken_alike s b answer EnterCommitDue = refl
taken_alike s b answer (LeaveCommitDue ending) = refl
taken_alike s b answer (FinishDue ending) = refl
taken_alike s b answer (ReplyDue outcome) = refl
taken_alike s b answer EndDue = refl

faulted_alike : (s : Session) (before later : ℕ) (p : Point) → Alike (faulted (tidied_at s p).session before later p) (faulted s before later p)
faulted_alike s before later Resting = refl
faulted_alike s before later (EnterDue work) = refl
faulted_alike s before later (LookDue stage) = refl
faulted_alike s before later (PostDue stage c) = refl
faulted_alike s before later (Waiting stage c) = refl
faulted_alike s before later (LostDue stage c x y) = refl
faulted_alike s before later (SplitDue stage best own among more) = refl
faulted_alike s before later (ChooseDue work) = refl
faulted_alike s before later ShowDue = refl
faulted_alike s before later (LeaveSnapshotDue work) = refl
faulted_alike s before later (UnwindDue ending) = refl
faulted_alike s before later EnterCommitDue = refl
faulted_alike s before later (LeaveCommitDue ending) = refl
faulted_alike s before later (FinishDue ending) = refl
faulted_alike s before later (ReplyDue outcome) = refl
faulted_alike s before later EndDue = refl

-- Any event.

event_alike : (s : Session) (p : Point) (event : SessionEvent) → Alike (after_at (tidied_at s p).session p event) (after_at s p event)
unfolding after_at
event_alike s p (events.Ordered order) = ordered_alike s p order.moment order.body
event_alike s p (events.Called call answer) = called_alike s p answer
event_alike s p (events.Posted b request) = posted_alike s p
event_alike s p (events.Taken b answer) = taken_alike s b answer p
event_alike s p (events.Faulted b before later) = faulted_alike s before later p
event_alike s p (events.Detached b cause answer) = detached_alike s p answer
event_alike s p (events.Swapped b) = due_alike s p
event_alike s p (events.Replied outcome status) = session_same (λ (x : Session). Alike (due x Resting) (due s Resting)) s p refl refl
event_alike s p events.Ended = session_same (λ (x : Session). Alike (new_machine x.id x.policy) (new_machine s.id s.policy)) s p refl refl

pub after_tidied : (m : Machine) (event : SessionEvent) → tidied (after (tidied m) event) ≡ tidied (after m event)
after_tidied m event =
    subst (λ (q : Point). Alike (after_at (tidied m).session q event) (after m event)) (sym (point_same m.session m.point)) (event_alike m.session m.point event)

pub after_all_tidied : (m : Machine) (list : List SessionEvent) → tidied (after_all (tidied m) list) ≡ tidied (after_all m list)
after_all_tidied m [] = again m.session m.point
after_all_tidied m (event ∷ list) =
    sym (after_all_tidied (after (tidied m) event) list) ∙ (ap (λ (n : Machine). tidied (after_all n list)) (after_tidied m event) ∙ after_all_tidied (after m event) list)

pub action_tidied : (m : Machine) → next_action (tidied m) ≡ next_action m
action_tidied m = action_same m.session m.point

pub actions_tidied : (m : Machine) (list : List SessionEvent) → next_action (after_all (tidied m) list) ≡ next_action (after_all m list)
actions_tidied m list =
    sym (action_tidied (after_all (tidied m) list)) ∙ (ap next_action (after_all_tidied m list) ∙ action_tidied (after_all m list))

-- The same events may happen.

may_order_bare : (s : Session) (p : Point) (body : OrderBody) → may_order (bare s) p body ≡ may_order s p body
may_order_bare s p (orders.Statement checked) = refl
may_order_bare s p orders.Begin = refl
may_order_bare s p orders.Commit = refl
may_order_bare s p orders.Rollback = refl
may_order_bare s p orders.Settle = refl
may_order_bare s p orders.ShowNodes = refl
may_order_bare s p (orders.Recover b) = refl
may_order_bare s p (orders.Refuse code name) = refl
may_order_bare s p orders.Leave = refl

action_bare : (s : Session) (p : Point) → action_at (bare s) p ≡ action_at s p
action_bare s Resting = refl
action_bare s (EnterDue work) = refl
action_bare s (LookDue stage) = refl
action_bare s (PostDue stage c) = refl
action_bare s (Waiting stage c) = refl
action_bare s (LostDue stage c x y) = refl
action_bare s (SplitDue stage best own among more) = refl
action_bare s (ChooseDue work) = refl
action_bare s ShowDue = refl
action_bare s (LeaveSnapshotDue work) = refl
action_bare s (UnwindDue ending) = refl
action_bare s EnterCommitDue = refl
action_bare s (LeaveCommitDue ending) = refl
action_bare s (FinishDue ending) = refl
action_bare s (ReplyDue outcome) = refl
action_bare s EndDue = refl

bare_may : (s : Session) (p : Point) (event : SessionEvent) → MayHappen (due s p) event → MayHappen (due (bare s) p) event
bare_may s p (events.Ordered order) may = (may_order_bare s p order.body ∙ may.0, may.1)
bare_may s p (events.Called call answer) may = (action_bare s p ∙ may.0, may.1)
bare_may s p (events.Posted b request) may = action_bare s p ∙ may
bare_may s p (events.Taken b answer) may = (action_bare s p ∙ may.0, may.1)
bare_may s p (events.Faulted b before later) may = (action_bare s p ∙ may.0, may.1)
bare_may s p (events.Detached b cause answer) may = (action_bare s p ∙ may.0, may.1)
bare_may s p (events.Swapped b) may = may
bare_may s p (events.Replied outcome status) may = action_bare s p ∙ may
bare_may s p events.Ended may = action_bare s p ∙ may

may_bare : (s : Session) (p : Point) (event : SessionEvent) → MayHappen (due (bare s) p) event → MayHappen (due s p) event
may_bare s p (events.Ordered order) may = (sym (may_order_bare s p order.body) ∙ may.0, may.1)
may_bare s p (events.Called call answer) may = (sym (action_bare s p) ∙ may.0, may.1)
may_bare s p (events.Posted b request) may = sym (action_bare s p) ∙ may
may_bare s p (events.Taken b answer) may = (sym (action_bare s p) ∙ may.0, may.1)
may_bare s p (events.Faulted b before later) may = (sym (action_bare s p) ∙ may.0, may.1)
may_bare s p (events.Detached b cause answer) may = (sym (action_bare s p) ∙ may.0, may.1)
may_bare s p (events.Swapped b) may = may
may_bare s p (events.Replied outcome status) may = sym (action_bare s p) ∙ may
may_bare s p events.Ended may = sym (action_bare s p) ∙ may

to_tidied : (s : Session) (p : Point) (event : SessionEvent) → MayHappen (due s p) event → MayHappen (tidied_at s p) event
to_tidied s p event may =
    subst (λ (q : Point). MayHappen (due (tidied_at s p).session q) event) (sym (point_same s p))
    (session_same (λ (x : Session). MayHappen (due x p) event) s p may (bare_may s p event may))

from_tidied : (s : Session) (p : Point) (event : SessionEvent) → MayHappen (tidied_at s p) event → MayHappen (due s p) event
from_tidied s p event may =
    session_same (λ (x : Session). MayHappen (due x p) event → MayHappen (due s p) event) s p (λ same. same) (may_bare s p event)
    (subst (λ (q : Point). MayHappen (due (tidied_at s p).session q) event) (point_same s p) may)

pub may_tidied : (m : Machine) (event : SessionEvent) → MayHappen (tidied m) event ↔ MayHappen m event
may_tidied m event = (from_tidied m.session m.point event, to_tidied m.session m.point event)

-- What is handed out.

pub replied_tidied : (s : Session) (outcome : Outcome) (status : Status) → handed (due s (ReplyDue outcome)) ≡ tidied (after (due s (ReplyDue outcome)) (events.Replied outcome status))
unfolding after_at
replied_tidied s outcome status = refl

pub ended_tidied : (s : Session) → handed (due s EndDue) ≡ after (due s EndDue) events.Ended
unfolding after_at
ended_tidied s = refl
