-- A commit that is entered goes on to its reply or its end.
use Rattle.std.proofs.Common.{◌≡◌, ◌⊎◌, ◌+◌, ℕ, Bool, true, false, Some, None, refl, sym, subst, inl, inr}
use Rattle.std.specs.Prelude.{Option}
use Rattle.pool_base.specs.declared.backend_id.BackendId.{BackendId}
use Rattle.pool_base.specs.declared.backend_set.BackendSet.{BackendSet}
use Rattle.pool_base.specs.declared.gate_call.View.{View}
use Rattle.pool_base.specs.declared.gate_call.GateCall.{GateCall}
use Rattle.pool_base.specs.declared.gate_call.GateCall.TheVariants as calls
use Rattle.pool_base.specs.declared.gate_call.GateAnswer.{GateAnswer}
use Rattle.pool_base.specs.declared.gate_call.GateAnswer.TheVariants.{Seen, Granted, Held, Spent}
use Rattle.backend_trait.specs.declared.answer.Answer.{Answer}
use Rattle.write_path.specs.declared.kind.ChainKind.TheVariants.{All}
use Rattle.session_orders.specs.declared.order.OrderBody.{OrderBody}
use Rattle.session_orders.specs.declared.order.OrderBody.TheVariants as orders
use Rattle.session_orders.specs.declared.outcome.Outcome.{Outcome}
use Rattle.session_machine.specs.declared.status.Status.{Status}
use Rattle.session_machine.specs.declared.action.Action.TheVariants as actions
use Rattle.session_machine.specs.declared.action.SessionEvent.{SessionEvent}
use Rattle.session_machine.specs.declared.action.SessionEvent.TheVariants as events
use Rattle.session_machine.specs.declared.machine.GatePhase.{GatePhase}
use Rattle.session_machine.specs.declared.machine.GatePhase.TheVariants.{Out, InCommit}
use Rattle.session_machine.specs.declared.machine.Heard.{Heard}
use Rattle.session_machine.specs.declared.machine.Ending.{Ending}
use Rattle.session_machine.specs.declared.machine.Ending.TheVariants.{Replies, Leaves}
use Rattle.session_machine.specs.declared.machine.Stage.{Stage}
use Rattle.session_machine.specs.declared.machine.Stage.TheVariants.{Opening, Reading, Running, Locking, Inserting, Committing, Closing, RollingBack}
use Rattle.session_machine.specs.declared.machine.Point.{Point}
use Rattle.session_machine.specs.declared.machine.Point.TheVariants.{Resting, EnterDue, LookDue, PostDue, Waiting, LostDue, SplitDue, ChooseDue, ShowDue, LeaveSnapshotDue, UnwindDue, EnterCommitDue, LeaveCommitDue, FinishDue, ReplyDue, EndDue}
use Rattle.session_machine.specs.declared.machine.Session.{Session}
use Rattle.session_machine.specs.declared.machine.Machine.{Machine}
use Rattle.session_machine.specs.Allowed.{MayHappen, may_order, fits_at_rest, is_resting, may_leave, answers_call}
use Rattle.session_machine.specs.Answers.{next_of, kept, first_other, goes_on}
use Rattle.session_machine.specs.Rules.{due, action_at, primary, ended, decided, split, judged, asked, looked_at, commit_entered, with_view, in_phase, granted, called, stage_posted, posted, taken, faulted, lost_one, parted, parted_at, detached, after, after_at}
use Rattle.session_engine.specs.Sound.{wants_memory}
use Rattle.session_engine.specs.Committing.{IsOfCommit, IsCommitting, IsOver}

-- under way, or over
abbrev Goes : Machine → Type 0
Goes m = IsCommitting m.point ⊎ IsOver m.point

is_commit : (stage : Stage) → IsOfCommit stage → stage ≡ Committing
is_commit (Opening work) of = absurd of
is_commit (Reading work ticket) of = absurd of
is_commit (Running work) of = absurd of
is_commit (Locking work table) of = absurd of
is_commit (Inserting work sent) of = absurd of
is_commit Committing of = refl
is_commit Closing of = absurd of
is_commit (RollingBack ending) of = absurd of

-- A Look.

decided_on : (behind : Bool) (s : Session) (answer : Answer) (more : Bool) → Goes (decided behind s Committing answer more)
decided_on behind s answer true = inl tt
decided_on behind s answer false = inl tt

split_on : (behind : Bool) (s : Session) (best : Heard) (among : BackendSet) (more : Bool) (other : Option Heard) → Goes (split behind s Committing best among more other)
split_on behind s best among more None = decided_on behind s best.answer more
split_on behind s best among more (Some own) = inl tt

judged_on : (s : Session) (best : Option Heard) → Goes (judged s Committing best)
judged_on s None = inl tt
judged_on s (Some best) =
    split_on true s best s.view.attached (goes_on s.view.attached.bits s.heard best.answer) (first_other s.view.attached.bits best.answer 0 s.heard)

asked_on : (s : Session) (b : Option BackendId) → Goes (asked s Committing b)
unfolding asked
asked_on s None = judged_on s (kept s.view.attached.bits s.heard)
asked_on s (Some b) = inl tt

looked_on : (s : Session) (b : Option BackendId) → Goes (looked_at s Committing b)
looked_on s None = inl tt
looked_on s (Some b) = asked_on s (next_of All s.view.attached.bits s.heard)

looked_of : (s : Session) (stage : Stage) (b : Option BackendId) → IsOfCommit stage → Goes (looked_at s stage b)
looked_of s (Opening work) b of = absurd of
looked_of s (Reading work ticket) b of = absurd of
looked_of s (Running work) b of = absurd of
looked_of s (Locking work table) b of = absurd of
looked_of s (Inserting work sent) b of = absurd of
looked_of s Committing b of = looked_on s b
looked_of s Closing b of = absurd of
looked_of s (RollingBack ending) b of = absurd of

-- The gate's answers.

ended_on : (s : Session) (ending : Ending) → Goes (ended s ending)
ended_on s (Replies outcome) = inr tt
ended_on s Leaves = inr tt

granted_on : (s : Session) (p : Point) → IsCommitting p → Goes (granted s p)
unfolding granted
granted_on s (LookDue stage) on = looked_of s stage (primary s) on
granted_on s (LeaveCommitDue ending) on = ended_on (in_phase s Out) ending
granted_on s (PostDue stage b) on = inl on
granted_on s (Waiting stage b) on = inl on
granted_on s (LostDue stage b before later) on = inl on
granted_on s (SplitDue stage best own among more) on = inl on
granted_on s Resting on = absurd on
granted_on s (EnterDue work) on = absurd on
granted_on s (ChooseDue work) on = absurd on
granted_on s ShowDue on = absurd on
granted_on s (LeaveSnapshotDue work) on = absurd on
granted_on s (UnwindDue ending) on = absurd on
granted_on s EnterCommitDue on = absurd on
granted_on s (FinishDue ending) on = absurd on
granted_on s (ReplyDue outcome) on = absurd on
granted_on s EndDue on = absurd on

-- no call of a commit is answered by Spent
not_spent : (s : Session) (p : Point) (call : GateCall) → IsCommitting p → action_at s p ≡ actions.Gate call → answers_call call Spent ≡ true → ⊥
not_spent s (LookDue stage) calls.Look on asks fits = cc
not_spent s (LookDue stage) calls.EnterSnapshot on asks fits = cc
not_spent s (LookDue stage) calls.LeaveSnapshot on asks fits = cc
not_spent s (LookDue stage) (calls.EnterCommit tables) on asks fits = cc
not_spent s (LookDue stage) calls.LeaveCommit on asks fits = cc
not_spent s (LookDue stage) calls.Finish on asks fits = cc
not_spent s (LookDue stage) (calls.Detach b) on asks fits = cc
not_spent s (LookDue stage) calls.StartCopy on asks fits = cc
not_spent s (LookDue stage) calls.AskQuiet on asks fits = cc
not_spent s (LookDue stage) calls.EnterQuiet on asks fits = cc
not_spent s (LookDue stage) (calls.Attach b) on asks fits = cc
not_spent s (LookDue stage) calls.LeaveQuiet on asks fits = cc
not_spent s (LeaveCommitDue ending) calls.Look on asks fits = cc
not_spent s (LeaveCommitDue ending) calls.EnterSnapshot on asks fits = cc
not_spent s (LeaveCommitDue ending) calls.LeaveSnapshot on asks fits = cc
not_spent s (LeaveCommitDue ending) (calls.EnterCommit tables) on asks fits = cc
not_spent s (LeaveCommitDue ending) calls.LeaveCommit on asks fits = cc
not_spent s (LeaveCommitDue ending) calls.Finish on asks fits = cc
not_spent s (LeaveCommitDue ending) (calls.Detach b) on asks fits = cc
not_spent s (LeaveCommitDue ending) calls.StartCopy on asks fits = cc
not_spent s (LeaveCommitDue ending) calls.AskQuiet on asks fits = cc
not_spent s (LeaveCommitDue ending) calls.EnterQuiet on asks fits = cc
not_spent s (LeaveCommitDue ending) (calls.Attach b) on asks fits = cc
not_spent s (LeaveCommitDue ending) calls.LeaveQuiet on asks fits = cc
not_spent s (PostDue stage b) call on asks fits = cc
not_spent s (Waiting stage b) call on asks fits = cc
not_spent s (LostDue stage b before later) call on asks fits = cc
not_spent s (SplitDue stage best own among more) call on asks fits = cc
not_spent s Resting call on asks fits = on
not_spent s (EnterDue work) call on asks fits = on
not_spent s (ChooseDue work) call on asks fits = on
not_spent s ShowDue call on asks fits = on
not_spent s (LeaveSnapshotDue work) call on asks fits = on
not_spent s (UnwindDue ending) call on asks fits = on
not_spent s EnterCommitDue call on asks fits = on
not_spent s (FinishDue ending) call on asks fits = on
not_spent s (ReplyDue outcome) call on asks fits = on
not_spent s EndDue call on asks fits = on

called_on : (s : Session) (p : Point) (call : GateCall) (answer : GateAnswer) → IsCommitting p → action_at s p ≡ actions.Gate call → answers_call call answer ≡ true
    → Goes (called s p answer)
unfolding called
called_on s p call (Seen view) on asks fits = granted_on (with_view s view) p on
called_on s p call (Granted view) on asks fits = granted_on (with_view s view) p on
called_on s p call (Held count) on asks fits = inl on
called_on s p call Spent on asks fits = absurd (not_spent s p call on asks fits)

-- Posts, answers, losses, detachments.

posted_on : (s : Session) (p : Point) → IsCommitting p → Goes (posted s p)
posted_on s (PostDue stage b) on = inl (subst (λ (t : Stage). IsOfCommit (stage_posted t)) (sym (is_commit stage on)) tt)
posted_on s Resting on = inl on
posted_on s (EnterDue work) on = inl on
posted_on s (LookDue stage) on = inl on
posted_on s (Waiting stage b) on = inl on
posted_on s (LostDue stage b before later) on = inl on
posted_on s (SplitDue stage best own among more) on = inl on
posted_on s (ChooseDue work) on = inl on
posted_on s ShowDue on = inl on
posted_on s (LeaveSnapshotDue work) on = inl on
posted_on s (UnwindDue ending) on = inl on
posted_on s EnterCommitDue on = inl on
posted_on s (LeaveCommitDue ending) on = inl on
posted_on s (FinishDue ending) on = inl on
posted_on s (ReplyDue outcome) on = inl on
posted_on s EndDue on = inl on

taken_on : (s : Session) (b : BackendId) (answer : Answer) (p : Point) → IsCommitting p → Goes (taken s b answer p)
taken_on s b answer Resting on = inl on
taken_on s b answer (EnterDue work) on = inl on
taken_on s b answer (LookDue stage) on = inl on
taken_on s b answer (PostDue stage c) on = inl on
taken_on s b answer (Waiting stage c) on = inl on
taken_on s b answer (LostDue stage c x y) on = inl on
taken_on s b answer (SplitDue stage best own among more) on = inl on
taken_on s b answer (ChooseDue work) on = inl on
taken_on s b answer ShowDue on = inl on
taken_on s b answer (LeaveSnapshotDue work) on = inl on
taken_on s b answer (UnwindDue ending) on = inl on
taken_on s b answer EnterCommitDue on = inl on
taken_on s b answer (LeaveCommitDue ending) on = inl on
taken_on s b answer (FinishDue ending) on = inl on
taken_on s b answer (ReplyDue outcome) on = inl on
taken_on s b answer EndDue on = inl on

faulted_on : (s : Session) (before later : ℕ) (p : Point) → IsCommitting p → Goes (faulted s before later p)
faulted_on s before later Resting on = inl on
faulted_on s before later (EnterDue work) on = inl on
faulted_on s before later (LookDue stage) on = inl on
faulted_on s before later (PostDue stage c) on = inl on
faulted_on s before later (Waiting stage c) on = inl on
faulted_on s before later (LostDue stage c x y) on = inl on
faulted_on s before later (SplitDue stage best own among more) on = inl on
faulted_on s before later (ChooseDue work) on = inl on
faulted_on s before later ShowDue on = inl on
faulted_on s before later (LeaveSnapshotDue work) on = inl on
faulted_on s before later (UnwindDue ending) on = inl on
faulted_on s before later EnterCommitDue on = inl on
faulted_on s before later (LeaveCommitDue ending) on = inl on
faulted_on s before later (FinishDue ending) on = inl on
faulted_on s before later (ReplyDue outcome) on = inl on
faulted_on s before later EndDue on = inl on

lost_one_on : (s : Session) (stage : Stage) (b : Option BackendId) → IsOfCommit stage → Goes (lost_one s stage b)
lost_one_on s stage (Some b) of = inl of
lost_one_on s (Opening work) None of = absurd of
lost_one_on s (Reading work ticket) None of = absurd of
lost_one_on s (Running work) None of = absurd of
lost_one_on s (Locking work table) None of = absurd of
lost_one_on s (Inserting work sent) None of = absurd of
lost_one_on s Committing None of = inl tt
lost_one_on s Closing None of = absurd of
lost_one_on s (RollingBack ending) None of = absurd of

parted_commit : (s : Session) (best own : Heard) (among : BackendSet) (more : Bool) (b : Option BackendId) → Goes (parted s Committing best own among more b)
parted_commit s best own among more None = inl tt
parted_commit s best own among more (Some b) =
    split_on false s best among more (first_other among.bits best.answer (own.b.number + 1) s.heard)

parted_on : (s : Session) (stage : Stage) (best own : Heard) (among : BackendSet) (more : Bool) (b : Option BackendId) → IsOfCommit stage
    → Goes (parted s stage best own among more b)
parted_on s stage best own among more b of =
    subst (λ (t : Stage). Goes (parted s t best own among more b)) (sym (is_commit stage of)) (parted_commit s best own among more b)

parted_at_on : (s : Session) (p : Point) → IsCommitting p → Goes (parted_at s p)
parted_at_on s Resting on = inl on
parted_at_on s (EnterDue work) on = inl on
parted_at_on s (LookDue stage) on = inl on
parted_at_on s (PostDue stage c) on = inl on
parted_at_on s (Waiting stage c) on = inl on
parted_at_on s (LostDue stage c x y) on = lost_one_on s stage (primary s) on
parted_at_on s (SplitDue stage best own among more) on = parted_on s stage best own among more (primary s) on
parted_at_on s (ChooseDue work) on = inl on
parted_at_on s ShowDue on = inl on
parted_at_on s (LeaveSnapshotDue work) on = inl on
parted_at_on s (UnwindDue ending) on = inl on
parted_at_on s EnterCommitDue on = inl on
parted_at_on s (LeaveCommitDue ending) on = inl on
parted_at_on s (FinishDue ending) on = inl on
parted_at_on s (ReplyDue outcome) on = inl on
parted_at_on s EndDue on = inl on

detached_on : (s : Session) (p : Point) (answer : GateAnswer) → IsCommitting p → Goes (detached s p answer)
unfolding detached
detached_on s p (Seen view) on = parted_at_on (with_view s view) p on
detached_on s p (Granted view) on = parted_at_on (with_view s view) p on
detached_on s p (Held count) on = inl on
detached_on s p Spent on = inl on

-- Orders: none may come.

not_resting : (p : Point) → IsCommitting p → is_resting p ≡ false
not_resting Resting on = absurd on
not_resting (EnterDue work) on = refl
not_resting (LookDue stage) on = refl
not_resting (PostDue stage c) on = refl
not_resting (Waiting stage c) on = refl
not_resting (LostDue stage c x y) on = refl
not_resting (SplitDue stage best own among more) on = refl
not_resting (ChooseDue work) on = refl
not_resting ShowDue on = refl
not_resting (LeaveSnapshotDue work) on = refl
not_resting (UnwindDue ending) on = refl
not_resting EnterCommitDue on = refl
not_resting (LeaveCommitDue ending) on = refl
not_resting (FinishDue ending) on = refl
not_resting (ReplyDue outcome) on = refl
not_resting EndDue on = refl

not_leaving : (p : Point) → IsCommitting p → may_leave p ≡ false
not_leaving Resting on = absurd on
not_leaving (EnterDue work) on = absurd on
not_leaving (LookDue stage) on = rw (is_commit stage on) refl
not_leaving (PostDue stage c) on = rw (is_commit stage on) refl
not_leaving (Waiting stage c) on = refl
not_leaving (LostDue stage c x y) on = rw (is_commit stage on) refl
not_leaving (SplitDue stage best own among more) on = rw (is_commit stage on) refl
not_leaving (ChooseDue work) on = absurd on
not_leaving ShowDue on = absurd on
not_leaving (LeaveSnapshotDue work) on = absurd on
not_leaving (UnwindDue ending) on = absurd on
not_leaving EnterCommitDue on = absurd on
not_leaving (LeaveCommitDue ending) on = refl
not_leaving (FinishDue ending) on = absurd on
not_leaving (ReplyDue outcome) on = absurd on
not_leaving EndDue on = absurd on

unfit : (t : Bool) (status : Status) (phase : GatePhase) (body : OrderBody) → t ≡ false → fits_at_rest t status phase body ≡ true → ⊥
unfit false status phase body rests fits = cc
unfit true status phase body rests fits = cc

no_order : (s : Session) (p : Point) (body : OrderBody) → is_resting p ≡ false → may_leave p ≡ false → may_order s p body ≡ true → ⊥
no_order s p orders.Leave rests leaves may = cc
no_order s p (orders.Statement checked) rests leaves may = unfit (is_resting p) s.status s.gate (orders.Statement checked) rests may
no_order s p orders.Begin rests leaves may = unfit (is_resting p) s.status s.gate orders.Begin rests may
no_order s p orders.Commit rests leaves may = unfit (is_resting p) s.status s.gate orders.Commit rests may
no_order s p orders.Rollback rests leaves may = unfit (is_resting p) s.status s.gate orders.Rollback rests may
no_order s p orders.Settle rests leaves may = unfit (is_resting p) s.status s.gate orders.Settle rests may
no_order s p orders.ShowNodes rests leaves may = unfit (is_resting p) s.status s.gate orders.ShowNodes rests may
no_order s p (orders.Recover b) rests leaves may = cc
no_order s p (orders.Refuse code name) rests leaves may = unfit (is_resting p) s.status s.gate (orders.Refuse code name) rests may

-- Any event.

no_reply : (s : Session) (p : Point) (outcome : Outcome) (status : Status) → IsCommitting p → action_at s p ≡ actions.Reply outcome status → ⊥
no_reply s Resting outcome status on replies = cc
no_reply s (EnterDue work) outcome status on replies = cc
no_reply s (LookDue stage) outcome status on replies = cc
no_reply s (PostDue stage c) outcome status on replies = cc
no_reply s (Waiting stage c) outcome status on replies = cc
no_reply s (LostDue stage c x y) outcome status on replies = cc
no_reply s (SplitDue stage best own among more) outcome status on replies = cc
no_reply s (ChooseDue work) outcome status on replies = cc
no_reply s ShowDue outcome status on replies = cc
no_reply s (LeaveSnapshotDue work) outcome status on replies = cc
no_reply s (UnwindDue ending) outcome status on replies = cc
no_reply s EnterCommitDue outcome status on replies = cc
no_reply s (LeaveCommitDue ending) outcome status on replies = cc
no_reply s (FinishDue ending) outcome status on replies = cc
no_reply s (ReplyDue other) outcome status on replies = on
no_reply s EndDue outcome status on replies = cc

no_end : (s : Session) (p : Point) → IsCommitting p → action_at s p ≡ actions.End → ⊥
no_end s Resting on ends = cc
no_end s (EnterDue work) on ends = cc
no_end s (LookDue stage) on ends = cc
no_end s (PostDue stage c) on ends = cc
no_end s (Waiting stage c) on ends = cc
no_end s (LostDue stage c x y) on ends = cc
no_end s (SplitDue stage best own among more) on ends = cc
no_end s (ChooseDue work) on ends = cc
no_end s ShowDue on ends = cc
no_end s (LeaveSnapshotDue work) on ends = cc
no_end s (UnwindDue ending) on ends = cc
no_end s EnterCommitDue on ends = cc
no_end s (LeaveCommitDue ending) on ends = cc
no_end s (FinishDue ending) on ends = cc
no_end s (ReplyDue outcome) on ends = cc
no_end s EndDue on ends = on

pub goes_on_at : (m : Machine) (event : SessionEvent) → IsCommitting m.point → MayHappen m event → Goes (after m event)
unfolding after_at
goes_on_at m (events.Ordered order) on may =
    absurd (no_order m.session m.point order.body (not_resting m.point on) (not_leaving m.point on) may.0)
goes_on_at m (events.Called call answer) on may = called_on m.session m.point call answer on may.0 may.1
goes_on_at m (events.Posted b request) on may = posted_on m.session m.point on
goes_on_at m (events.Taken b answer) on may = taken_on m.session b answer m.point on
goes_on_at m (events.Faulted b before later) on may = faulted_on m.session before later m.point on
goes_on_at m (events.Detached b cause answer) on may = detached_on m.session m.point answer on
goes_on_at m (events.Swapped b) on may = absurd may
goes_on_at m (events.Replied outcome status) on may = absurd (no_reply m.session m.point outcome status on may)
goes_on_at m events.Ended on may = absurd (no_end m.session m.point on may)

entered_at : (s : Session) (b : Option BackendId) → IsCommitting (commit_entered s b).point
entered_at s None = tt
entered_at s (Some b) = tt

pub entered_commits : (s : Session) (call : GateCall) (view : View) → IsCommitting (after (due s EnterCommitDue) (events.Called call (Granted view))).point
unfolding after_at called granted
entered_commits s call view = entered_at (in_phase (with_view s view) InCommit) (primary (with_view s view))

-- Nothing that is due wants memory.

pub under_way_wants_nothing : (p : Point) → IsCommitting p → wants_memory p ≡ false
under_way_wants_nothing Resting on = refl
under_way_wants_nothing (EnterDue work) on = refl
under_way_wants_nothing (LookDue stage) on = refl
under_way_wants_nothing (PostDue stage c) on = rw (is_commit stage on) refl
under_way_wants_nothing (Waiting stage c) on = refl
under_way_wants_nothing (LostDue stage c x y) on = refl
under_way_wants_nothing (SplitDue stage best own among more) on = rw (is_commit stage on) refl
under_way_wants_nothing (ChooseDue work) on = refl
under_way_wants_nothing ShowDue on = refl
under_way_wants_nothing (LeaveSnapshotDue work) on = refl
under_way_wants_nothing (UnwindDue ending) on = refl
under_way_wants_nothing EnterCommitDue on = refl
under_way_wants_nothing (LeaveCommitDue ending) on = refl
under_way_wants_nothing (FinishDue ending) on = refl
under_way_wants_nothing (ReplyDue outcome) on = refl
under_way_wants_nothing EndDue on = refl

pub over_wants_nothing : (p : Point) → IsOver p → wants_memory p ≡ false
over_wants_nothing Resting over = refl
over_wants_nothing (EnterDue work) over = refl
over_wants_nothing (LookDue stage) over = refl
over_wants_nothing (PostDue stage c) over = absurd over
over_wants_nothing (Waiting stage c) over = refl
over_wants_nothing (LostDue stage c x y) over = refl
over_wants_nothing (SplitDue stage best own among more) over = absurd over
over_wants_nothing (ChooseDue work) over = refl
over_wants_nothing ShowDue over = refl
over_wants_nothing (LeaveSnapshotDue work) over = refl
over_wants_nothing (UnwindDue ending) over = refl
over_wants_nothing EnterCommitDue over = refl
over_wants_nothing (LeaveCommitDue ending) over = refl
over_wants_nothing (FinishDue ending) over = refl
over_wants_nothing (ReplyDue outcome) over = refl
over_wants_nothing EndDue over = refl
