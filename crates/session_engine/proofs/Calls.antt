-- What the calls of a core need: where each event leads is sound, and what was due is what the event answers.
use Rattle.std.proofs.Common.{◌≡◌, ◌<◌, ℕ, ℤ, true, Result, Ok, Err, IfErr, OnOk, OnErr, length, refl, sym, subst}
use Rattle.std.proofs.Math.Logic.{∥∥₁_elim}
use Rattle.std.specs.Coded.{le_prop}
use mathlib.Core.Bool.{Bool-set}
use Rattle.pool_base.specs.declared.backend_id.BackendId.{BackendId}
use Rattle.pool_base.specs.declared.gate_call.GateAnswer.{GateAnswer}
use Rattle.backend_trait.specs.declared.request.Request.{Request}
use Rattle.backend_trait.specs.declared.answer.Answer.{Answer}
use Rattle.session_orders.specs.declared.order.Order.{Order}
use Rattle.session_orders.specs.declared.order.OrderBody.TheVariants as orders
use Rattle.session_machine.specs.declared.action.Action.{Action}
use Rattle.session_machine.specs.declared.action.Action.TheVariants as actions
use Rattle.session_machine.specs.declared.action.SessionEvent.TheVariants as events
use Rattle.session_machine.specs.declared.machine.Session.{Session}
use Rattle.session_machine.specs.declared.machine.Machine.{Machine}
use Rattle.session_machine.specs.Rules.{due, action_at, left, ordered, posted, taken, faulted, after, after_at}
use Rattle.session_engine.specs.declared.due.Due.{Due}
use Rattle.session_engine.specs.declared.due.Due.TheVariants.{Resting, EnterDue, LookDue, PostDue, Waiting, LostDue, SplitDue, ChooseDue, ShowDue, LeaveSnapshotDue, UnwindDue, EnterCommitDue, LeaveCommitDue, FinishDue, ReplyDue, RowsDue, EndDue}
use Rattle.session_engine.specs.Dues.{point_of, IsPosting, IsWaiting, IsParting, IsReplying, IsEnding}
use Rattle.session_engine.specs.Handing.{gate_event, IsPost, IsDetach, IsReply}
use Rattle.session_engine.specs.Sound.{IsSound, wants_memory, WantsCopies}
use Rattle.session_engine.proofs.Ones.{few}
use Rattle.session_engine.proofs.Soundness.{called_sound, detached_sound}
use Rattle.session_engine.proofs.Events.{copies_wanted}

-- Where each event leads, by its rule.

pub leave_is : (m : Machine) (moment : ℤ) → left m.session m.point ≡ after m (events.Ordered (record { moment = moment; body = orders.Leave }))
unfolding after_at ordered
leave_is m moment = refl

pub order_is : (m : Machine) (order : Order) → ordered m.session m.point order.moment order.body ≡ after m (events.Ordered order)
unfolding after_at
order_is m order = refl

pub posted_is : (m : Machine) (b : BackendId) (request : Request) → posted m.session m.point ≡ after m (events.Posted b request)
unfolding after_at
posted_is m b request = refl

pub taken_is : (m : Machine) (b : BackendId) (answer : Answer) → taken m.session b answer m.point ≡ after m (events.Taken b answer)
unfolding after_at
taken_is m b answer = refl

pub faulted_is : (m : Machine) (b : BackendId) (before later : ℕ) → faulted m.session before later m.point ≡ after m (events.Faulted b before later)
unfolding after_at
faulted_is m b before later = refl

-- the gate's answer leads from a sound state to a sound one
pub gate_event_sound : (m : Machine) (action : Action) (answer : GateAnswer) → IsSound m → IsSound (after m (gate_event action answer))
unfolding after_at
gate_event_sound m (actions.Detach b cause) answer sound = detached_sound m.session m.point answer sound
gate_event_sound m (actions.Gate call) answer sound = called_sound m.session m.point answer sound
gate_event_sound m actions.Rest answer sound = called_sound m.session m.point answer sound
gate_event_sound m (actions.Post b request) answer sound = called_sound m.session m.point answer sound
gate_event_sound m (actions.WaitFor b) answer sound = called_sound m.session m.point answer sound
gate_event_sound m (actions.Reply outcome status) answer sound = called_sound m.session m.point answer sound
gate_event_sound m actions.End answer sound = called_sound m.session m.point answer sound

-- What is due, where an event may happen.

pub posting : (s : Session) (d : Due) → IsPost (action_at s (point_of s.heard d)) → IsPosting d
posting s (PostDue stage b) posts = tt
posting s Resting posts = posts
posting s (EnterDue work) posts = posts
posting s (LookDue stage) posts = posts
posting s (Waiting stage b) posts = posts
posting s (LostDue stage b before later) posts = posts
posting s (SplitDue stage best own among more) posts = posts
posting s (ChooseDue work) posts = posts
posting s ShowDue posts = posts
posting s (LeaveSnapshotDue work) posts = posts
posting s (UnwindDue ending) posts = posts
posting s EnterCommitDue posts = posts
posting s (LeaveCommitDue ending) posts = posts
posting s (FinishDue ending) posts = posts
posting s (ReplyDue outcome) posts = posts
posting s (RowsDue best) posts = posts
posting s EndDue posts = posts

pub waiting : (s : Session) (d : Due) (b : BackendId) → action_at s (point_of s.heard d) ≡ actions.WaitFor b → IsWaiting d
waiting s (Waiting stage asked) b waits = tt
waiting s Resting b waits = absurd (cc)
waiting s (EnterDue work) b waits = absurd (cc)
waiting s (LookDue stage) b waits = absurd (cc)
waiting s (PostDue stage asked) b waits = absurd (cc)
waiting s (LostDue stage asked before later) b waits = absurd (cc)
waiting s (SplitDue stage best own among more) b waits = absurd (cc)
waiting s (ChooseDue work) b waits = absurd (cc)
waiting s ShowDue b waits = absurd (cc)
waiting s (LeaveSnapshotDue work) b waits = absurd (cc)
waiting s (UnwindDue ending) b waits = absurd (cc)
waiting s EnterCommitDue b waits = absurd (cc)
waiting s (LeaveCommitDue ending) b waits = absurd (cc)
waiting s (FinishDue ending) b waits = absurd (cc)
waiting s (ReplyDue outcome) b waits = absurd (cc)
waiting s (RowsDue best) b waits = absurd (cc)
waiting s EndDue b waits = absurd (cc)

pub parting : (s : Session) (d : Due) → IsDetach (action_at s (point_of s.heard d)) → IsParting d
parting s Resting parts = parts
parting s (EnterDue work) parts = parts
parting s (LookDue stage) parts = parts
parting s (PostDue stage asked) parts = parts
parting s (Waiting stage asked) parts = parts
parting s (LostDue stage asked before later) parts = tt
parting s (SplitDue stage best own among more) parts = tt
parting s (ChooseDue work) parts = parts
parting s ShowDue parts = parts
parting s (LeaveSnapshotDue work) parts = parts
parting s (UnwindDue ending) parts = parts
parting s EnterCommitDue parts = parts
parting s (LeaveCommitDue ending) parts = parts
parting s (FinishDue ending) parts = parts
parting s (ReplyDue outcome) parts = parts
parting s (RowsDue best) parts = parts
parting s EndDue parts = parts

pub replying : (s : Session) (d : Due) → IsReply (action_at s (point_of s.heard d)) → IsReplying d
replying s Resting replies = replies
replying s (EnterDue work) replies = replies
replying s (LookDue stage) replies = replies
replying s (PostDue stage asked) replies = replies
replying s (Waiting stage asked) replies = replies
replying s (LostDue stage asked before later) replies = replies
replying s (SplitDue stage best own among more) replies = replies
replying s (ChooseDue work) replies = replies
replying s ShowDue replies = replies
replying s (LeaveSnapshotDue work) replies = replies
replying s (UnwindDue ending) replies = replies
replying s EnterCommitDue replies = replies
replying s (LeaveCommitDue ending) replies = replies
replying s (FinishDue ending) replies = replies
replying s (ReplyDue outcome) replies = tt
replying s (RowsDue best) replies = tt
replying s EndDue replies = replies

pub is_ending : (s : Session) (d : Due) → action_at s (point_of s.heard d) ≡ actions.End → IsEnding d
is_ending s Resting ends = absurd (cc)
is_ending s (EnterDue work) ends = absurd (cc)
is_ending s (LookDue stage) ends = absurd (cc)
is_ending s (PostDue stage asked) ends = absurd (cc)
is_ending s (Waiting stage asked) ends = absurd (cc)
is_ending s (LostDue stage asked before later) ends = absurd (cc)
is_ending s (SplitDue stage best own among more) ends = absurd (cc)
is_ending s (ChooseDue work) ends = absurd (cc)
is_ending s ShowDue ends = absurd (cc)
is_ending s (LeaveSnapshotDue work) ends = absurd (cc)
is_ending s (UnwindDue last) ends = absurd (cc)
is_ending s EnterCommitDue ends = absurd (cc)
is_ending s (LeaveCommitDue last) ends = absurd (cc)
is_ending s (FinishDue last) ends = absurd (cc)
is_ending s (ReplyDue outcome) ends = absurd (cc)
is_ending s (RowsDue best) ends = absurd (cc)
is_ending s EndDue ends = tt

-- the backend that is asked has not answered: there is room for its answer
room_at : (s : Session) (d : Due) → IsSound (due s (point_of s.heard d)) → IsWaiting d → length s.heard < 8
room_at s (Waiting stage b) sound waits = few s.heard b sound.0 sound.1.0
room_at s Resting sound waits = absurd waits
room_at s (EnterDue work) sound waits = absurd waits
room_at s (LookDue stage) sound waits = absurd waits
room_at s (PostDue stage b) sound waits = absurd waits
room_at s (LostDue stage b before later) sound waits = absurd waits
room_at s (SplitDue stage best own among more) sound waits = absurd waits
room_at s (ChooseDue work) sound waits = absurd waits
room_at s ShowDue sound waits = absurd waits
room_at s (LeaveSnapshotDue work) sound waits = absurd waits
room_at s (UnwindDue ending) sound waits = absurd waits
room_at s EnterCommitDue sound waits = absurd waits
room_at s (LeaveCommitDue ending) sound waits = absurd waits
room_at s (FinishDue ending) sound waits = absurd waits
room_at s (ReplyDue outcome) sound waits = absurd waits
room_at s (RowsDue best) sound waits = absurd waits
room_at s EndDue sound waits = absurd waits

pub room : (s : Session) (d : Due) (b : BackendId) → ∥ IsSound (due s (point_of s.heard d)) ∥₁ → action_at s (point_of s.heard d) ≡ actions.WaitFor b → length s.heard < 8
room s d b sound waits = ∥∥₁_elim sound le_prop (λ is. room_at s d is (waiting s d b waits))

-- What is due wants memory.

pub led : (m n : Machine) → n ≡ m → IsSound m → IsSound n
led m n is sound = subst IsSound (sym is) sound

-- an order is taken, or the session stands where it stood
pub led_or_kept : {A E : Type 0} (P : Machine → Type 0) (r : Result A E) (m next n : Machine) → OnOk r (n ≡ next) → OnErr r (n ≡ m) → P next → P m → P n
led_or_kept P (Ok x) m next n is kept there here = subst P (sym is) there
led_or_kept P (Err e) m next n is kept there here = subst P (sym kept) here

-- memory is wanted where a statement is posted, and where answers to a SELECT differ
pub wanted : {A E : Type 0} (r : Result A E) (m : Machine) → ∥ IsSound m ∥₁ → IfErr r (λ _. WantsCopies m.session.heard m.point)
    → IfErr r (λ _. wants_memory m.point ≡ true)
wanted (Ok x) m sound wants = tt
wanted (Err e) m sound wants = ∥∥₁_elim sound (Bool-set _ _) (λ is. copies_wanted m.session m.point is wants)
