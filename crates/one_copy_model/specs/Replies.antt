-- The replies that clients read: what the single run answers to an order, and which are the pool's own.
use Rattle.std.specs.Prelude.{◌≡◌, ◌⊎◌, ℕ, ◌<◌, Bool, true, false, if◌then◌else◌, List, [], ◌∷◌, length, Option, Some, None}
use Rattle.pool_base.specs.Sets.{has}
use Rattle.pool_base.specs.declared.code.Code.{Code}
use Rattle.backend_trait.specs.declared.request.Request.TheVariants as requests
use Rattle.backend_trait.specs.declared.answer.Answer.{Answer}
use Rattle.backend_trait.specs.declared.answer.Answer.TheVariants as answers
use Rattle.session_machine.specs.Codes.{in_a_block, outside_a_block, moment_out_of_range, counts_spent, no_backend}
use Rattle.session_machine.specs.declared.work.Class.{Class}
use Rattle.session_orders.specs.declared.order.OrderBody.{OrderBody}
use Rattle.session_orders.specs.declared.order.OrderBody.TheVariants as orders
use Rattle.session_orders.specs.declared.outcome.Tag.TheVariants as tags
use Rattle.session_orders.specs.declared.outcome.Outcome.{Outcome}
use Rattle.session_orders.specs.declared.outcome.Outcome.TheVariants as outcomes
use Rattle.session_machine.specs.declared.status.Status.{Status}
use Rattle.session_machine.specs.declared.status.Status.TheVariants.{Idle, InBlock, Failed}
use Rattle.session_machine.specs.declared.action.SessionEvent.{SessionEvent}
use Rattle.session_machine.specs.declared.action.SessionEvent.TheVariants as events
use Rattle.session_machine.specs.Classes.{class_in, work_in}
use Rattle.session_machine.specs.Rules.{done_with, error_of, tag_of, rewritten}
use Rattle.one_copy_model.specs.declared.deed.Deed.{Deed}
use Rattle.one_copy_model.specs.declared.deed.Deed.TheVariants.{Asks, Gets}
use Rattle.one_copy_model.specs.declared.event.Event.{Event}
use Rattle.one_copy_model.specs.declared.event.Event.TheVariants.{Of}
use Rattle.one_copy_model.specs.World.{World}
use Rattle.one_copy_model.specs.SingleRun.{deeds_since, answer_in}
use Rattle.one_copy_model.specs.Deaths.{is_live}
use Rattle.one_copy_model.specs.Tracking.{Told, Tracked, single, tracked_after}

-- What the single run answers.

-- to a statement: its rows, or its count with the tag of its verb, or a code
abbrev pub statement_reply : Class → Option Answer → Option Outcome
statement_reply class (Some (answers.Rows rows)) = Some (outcomes.Rows rows (tags.Select (length rows)))
statement_reply class (Some (answers.Count n)) = Some (done_with (tag_of class n))
statement_reply class (Some (answers.Refused code)) = Some (error_of code)
statement_reply class answer = None

-- to the end of a transaction: this where it has committed, so that the latest deed is the answer to a COMMIT
abbrev pub has_committed : List Deed → Bool
has_committed (Gets answers.Done ∷ Asks requests.Commit ∷ deeds) = true
has_committed deeds = false

-- where one was begun it has to commit, and where none was there is nothing to do
abbrev pub where_begun : Bool → Outcome → List Deed → Option Outcome
where_begun true outcome deeds = if has_committed deeds then Some outcome else None
where_begun false outcome deeds = Some outcome

abbrev pub begin_reply : Status → Outcome
begin_reply Idle = done_with tags.Begin
begin_reply InBlock = outcomes.Done tags.Begin (Some in_a_block)
begin_reply Failed = outcomes.Done tags.Begin (Some in_a_block)

abbrev pub commit_reply : Status → Bool → List Deed → Option Outcome
commit_reply Idle begun deeds = Some (outcomes.Done tags.Commit (Some outside_a_block))
commit_reply InBlock begun deeds = where_begun begun (done_with tags.Commit) deeds
commit_reply Failed begun deeds = Some (done_with tags.Rollback)

abbrev pub rollback_reply : Status → Outcome
rollback_reply Idle = outcomes.Done tags.Rollback (Some outside_a_block)
rollback_reply InBlock = done_with tags.Rollback
rollback_reply Failed = done_with tags.Rollback

abbrev pub settle_reply : Status → Bool → List Deed → Option Outcome
settle_reply Idle begun deeds = where_begun begun outcomes.Settled deeds
settle_reply InBlock begun deeds = Some outcomes.Settled
settle_reply Failed begun deeds = Some outcomes.Settled

-- to an order, by the deeds of its session since
abbrev pub reply_to : OrderBody → Status → Bool → List Deed → Option Outcome
reply_to (orders.Statement checked) status begun deeds = statement_reply (class_in checked.body) (answer_in deeds)
reply_to orders.Begin status begun deeds = Some (begin_reply status)
reply_to orders.Commit status begun deeds = commit_reply status begun deeds
reply_to orders.Rollback status begun deeds = Some (rollback_reply status)
reply_to orders.Settle status begun deeds = settle_reply status begun deeds
reply_to orders.ShowNodes status begun deeds = None
reply_to (orders.Recover b) status begun deeds = None
reply_to (orders.Refuse code name) status begun deeds = None
reply_to orders.Leave status begun deeds = None

-- the answer of a session's order in the single run
abbrev pub given : Tracked → ℕ → Told → Option Outcome
given t s told = reply_to told.order.body told.status told.begun (deeds_since s told.entries t.history)

-- The pool's own replies.

-- a statement whose moment cannot be written; the gate's counts spent at its snapshot; no backend; what the client was refused
-- with before; the list of the backends
abbrev pub IsUnwritten : Told → OrderBody → Type 0
IsUnwritten told (orders.Statement checked) = rewritten told.moment (work_in checked) ≡ None
IsUnwritten told body = ⊥

abbrev pub IsNobody : World → Type 0
IsNobody w = (b : ℕ) → b < 8 → has w.gate.attached.bits b ≡ false

-- an error leaves no live transaction in the single run
pub data IsOwn (w : World) (s : ℕ) (told : Told) (live : Bool) (outcome : Outcome) : Type 0 where
  of_moment : IsUnwritten told told.order.body → live ≡ false → outcome ≡ error_of moment_out_of_range → IsOwn w s told live outcome
  of_counts : told.spent ≡ true → live ≡ false → outcome ≡ error_of counts_spent → IsOwn w s told live outcome
  of_backends : IsNobody w → live ≡ false → outcome ≡ error_of no_backend → IsOwn w s told live outcome
  of_refusal : (code : Code) (name : List ℕ) → told.order.body ≡ orders.Refuse code name → live ≡ false → outcome ≡ outcomes.Error code name
      → IsOwn w s told live outcome
  of_nodes : told.order.body ≡ orders.ShowNodes → outcome ≡ outcomes.Nodes (w.machine s).session.view.attached → IsOwn w s told live outcome

-- Replies match: each reply is the answer of its order in the single run, or the pool's own.

abbrev pub IsRight : Tracked → ℕ → Told → Outcome → Type 0
IsRight t s told outcome =
    (given t s told ≡ Some outcome) ⊎ IsOwn t.world s told (is_live ((single t).transaction s)) outcome

abbrev pub IsReply : Tracked → ℕ → Option Told → Outcome → Type 0
IsReply t s None outcome = ⊥
IsReply t s (Some told) outcome = IsRight t s told outcome

-- an order other than a Leave comes when the one before it has its reply
abbrev pub FollowsReply : OrderBody → Option Told → Type 0
FollowsReply orders.Leave told = Unit {0}
FollowsReply body told = told ≡ None

-- an acknowledged commit: at the reply to an order whose commit was entered at the gate, each attached backend has done it
abbrev pub IsDoneBy : Tracked → ℕ → Type 0
IsDoneBy t s = (b : ℕ) → has t.world.gate.attached.bits b ≡ true → t.done s b ≡ true

abbrev pub WhereEntered : Option Told → Type 0 → Type 0
WhereEntered None P = Unit {0}
WhereEntered (Some told) P = told.entered ≡ true → P

-- what is to hold at each event
abbrev pub RepliesRightAt : Tracked → ℕ → SessionEvent → Type 0
RepliesRightAt t s (events.Replied outcome status) = IsReply t s (t.orders s) outcome
RepliesRightAt t s (events.Ordered order) = FollowsReply order.body (t.orders s)
RepliesRightAt t s event = Unit {0}

abbrev pub RepliesRight : Tracked → Event → Type 0
RepliesRight t (Of s event) = RepliesRightAt t s.number event
RepliesRight t e = Unit {0}

abbrev pub RepliesMatch : Tracked → List Event → Type 0
RepliesMatch t [] = Unit {0}
RepliesMatch t (e ∷ es) = RepliesRight t e × RepliesMatch (tracked_after t e) es

abbrev pub AcknowledgedAt : Tracked → ℕ → SessionEvent → Type 0
AcknowledgedAt t s (events.Replied outcome status) = WhereEntered (t.orders s) (IsDoneBy t s)
AcknowledgedAt t s event = Unit {0}

abbrev pub Acknowledged : Tracked → Event → Type 0
Acknowledged t (Of s event) = AcknowledgedAt t s.number event
Acknowledged t e = Unit {0}

abbrev pub AllAcknowledged : Tracked → List Event → Type 0
AllAcknowledged t [] = Unit {0}
AllAcknowledged t (e ∷ es) = Acknowledged t e × AllAcknowledged (tracked_after t e) es
