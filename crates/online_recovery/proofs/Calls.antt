-- Where each call of a recovery leads, by its rule; and what is due where a call is made.
use Rattle.std.proofs.Common.{◌≡◌, ℕ, ℤ, Bool, true, false, Some, None, Result, Ok, Err, IfErr, refl, sym, ◌∙◌, ap}
use Rattle.std.specs.Prelude.{Option}
use Rattle.pool_base.specs.declared.backend_id.BackendId.{BackendId}
use Rattle.pool_base.specs.declared.code.Code.{Code}
use Rattle.pool_base.specs.declared.gate_call.GateCall.TheVariants as calls
use Rattle.pool_base.specs.declared.gate_call.GateAnswer.{GateAnswer}
use Rattle.backend_trait.specs.declared.request.Request.{Request}
use Rattle.backend_trait.specs.declared.request.Request.TheVariants as requests
use Rattle.backend_trait.specs.declared.answer.Answer.{Answer}
use Rattle.session_orders.specs.declared.order.OrderBody.TheVariants as orders
use Rattle.session_orders.specs.declared.outcome.Outcome.{Outcome}
use Rattle.session_machine.specs.declared.status.Status.{Status}
use Rattle.session_machine.specs.declared.status.Status.TheVariants.{Idle}
use Rattle.session_machine.specs.declared.action.SessionEvent.TheVariants as events
use Rattle.session_machine.specs.declared.action.Cause.TheVariants.{Fault}
use Rattle.online_recovery.specs.declared.action.RecoveryAction.{RecoveryAction}
use Rattle.online_recovery.specs.declared.action.RecoveryAction.TheVariants as actions
use Rattle.online_recovery.specs.declared.ask.RecoveryAsk.TheVariants as asks
use Rattle.online_recovery.specs.declared.standing.Side.{Side}
use Rattle.online_recovery.specs.declared.standing.Task.{Task}
use Rattle.online_recovery.specs.declared.standing.Ending.{Ending}
use Rattle.online_recovery.specs.declared.standing.Ending.TheVariants.{Attached, Refused, Leaves}
use Rattle.online_recovery.specs.declared.standing.Owed.{Owed}
use Rattle.online_recovery.specs.declared.standing.Owed.TheVariants.{Transaction, Snapshot, LiveTransaction, TheQuiet, Nothing}
use Rattle.online_recovery.specs.declared.standing.Due.{Due}
use Rattle.online_recovery.specs.declared.standing.Due.TheVariants.{Resting, LookDue, StartDue, SwapDue, EnterDue, PostDue, Waiting, ShowDue, LeaveSnapshotDue, FinishDue, AskDue, QuietDue, AttachDue, LostDue, Closing, Undoing}
use Rattle.online_recovery.specs.declared.standing.Held.{Held}
use Rattle.online_recovery.specs.declared.standing.Standing.{Standing}
use Rattle.online_recovery.specs.State.{new_standing, owed, outcome_of}
use Rattle.online_recovery.specs.Rules.{closing_action, action_at, next_action, due, left, swapped, posted, taken, faulted, called, after, after_at}
use Rattle.online_recovery.specs.Allowed.{may_leave}
use Rattle.online_recovery.specs.Asking.{IsPost, IsDetach, IsSwap, IsReply, Posts, IsCopyDue, asked_of, gate_event, gate_led}

-- Where each event leads, by its rule.

pub begun_is : (s : Standing) (number : ℕ) (moment : ℤ) → due s.held (LookDue number) ≡ after s (events.Ordered (record { moment = moment; body = orders.Recover number }))
unfolding after_at
begun_is s number moment = refl

pub leave_is : (s : Standing) (moment : ℤ) → left s.held s.due ≡ after s (events.Ordered (record { moment = moment; body = orders.Leave }))
unfolding after_at
leave_is s moment = refl

pub swapped_is : (s : Standing) (b : BackendId) → swapped s.held s.due ≡ after s (events.Swapped b)
unfolding after_at
swapped_is s b = refl

pub posted_is : (s : Standing) (b : BackendId) (request : Request) → posted s.held s.due ≡ after s (events.Posted b request)
unfolding after_at
posted_is s b request = refl

pub taken_is : (s : Standing) (b : BackendId) (answer : Answer) → taken s.held s.due answer ≡ after s (events.Taken b answer)
unfolding after_at
taken_is s b answer = refl

pub faulted_is : (s : Standing) (b : BackendId) (before later : ℕ) → faulted s.held s.due before later ≡ after s (events.Faulted b before later)
unfolding after_at
faulted_is s b before later = refl

pub replied_is : (s : Standing) (outcome : Outcome) (status : Status) → new_standing s.held.id s.held.layout ≡ after s (events.Replied outcome status)
unfolding after_at
replied_is s outcome status = refl

pub ended_is : (s : Standing) → new_standing s.held.id s.held.layout ≡ after s events.Ended
unfolding after_at
ended_is s = refl

-- the end asks for no detachment
closing_led : (held : Held) (at : Due) (ending : Ending) (o : Owed) (answer : GateAnswer)
    → called held at answer ≡ after_at held at (gate_event (closing_action held ending o) answer)
unfolding after_at
closing_led held at ending (Transaction side) answer = refl
closing_led held at ending Snapshot answer = refl
closing_led held at ending LiveTransaction answer = refl
closing_led held at ending TheQuiet answer = refl
closing_led held at Attached Nothing answer = refl
closing_led held at (Refused code) Nothing answer = refl
closing_led held at Leaves Nothing answer = refl

led_is : (held : Held) (at : Due) (answer : GateAnswer) → gate_led held at answer ≡ after_at held at (gate_event (action_at held at) answer)
unfolding after_at
led_is held (LostDue ending before later) answer = refl
led_is held (Closing ending) answer = closing_led held (Closing ending) ending (owed held) answer
led_is held Resting answer = refl
led_is held (LookDue number) answer = refl
led_is held StartDue answer = refl
led_is held SwapDue answer = refl
led_is held EnterDue answer = refl
led_is held (PostDue task) answer = refl
led_is held (Waiting task) answer = refl
led_is held (ShowDue task heard) answer = refl
led_is held LeaveSnapshotDue answer = refl
led_is held FinishDue answer = refl
led_is held AskDue answer = refl
led_is held QuietDue answer = refl
led_is held AttachDue answer = refl
led_is held (Undoing side ending) answer = refl

pub answered_is : (s : Standing) (answer : GateAnswer) → gate_led s.held s.due answer ≡ after s (gate_event (next_action s) answer)
answered_is s answer = led_is s.held s.due answer

-- What is due.

pub swaps : (a : RecoveryAction) (b : BackendId) → asked_of a ≡ asks.Swap b → IsSwap a
swaps (actions.Swap c) b is = tt
swaps actions.Rest b is = absurd (cc)
swaps (actions.Gate call) b is = absurd (cc)
swaps (actions.Detach c cause) b is = absurd (cc)
swaps (actions.Post c request) b is = absurd (cc)
swaps (actions.WaitFor c) b is = absurd (cc)
swaps (actions.Reply outcome status) b is = absurd (cc)
swaps actions.End b is = absurd (cc)

pub posts : (a : RecoveryAction) (b : BackendId) → asked_of a ≡ asks.Post b → IsPost a
posts (actions.Post c request) b is = tt
posts actions.Rest b is = absurd (cc)
posts (actions.Gate call) b is = absurd (cc)
posts (actions.Swap c) b is = absurd (cc)
posts (actions.Detach c cause) b is = absurd (cc)
posts (actions.WaitFor c) b is = absurd (cc)
posts (actions.Reply outcome status) b is = absurd (cc)
posts actions.End b is = absurd (cc)

pub detaches : (a : RecoveryAction) (b : BackendId) → asked_of a ≡ asks.Detach b → IsDetach a
detaches (actions.Detach c cause) b is = tt
detaches actions.Rest b is = absurd (cc)
detaches (actions.Gate call) b is = absurd (cc)
detaches (actions.Swap c) b is = absurd (cc)
detaches (actions.Post c request) b is = absurd (cc)
detaches (actions.WaitFor c) b is = absurd (cc)
detaches (actions.Reply outcome status) b is = absurd (cc)
detaches actions.End b is = absurd (cc)

pub replies : (a : RecoveryAction) → asked_of a ≡ asks.Reply → IsReply a
replies (actions.Reply outcome status) is = tt
replies actions.Rest is = absurd (cc)
replies (actions.Gate call) is = absurd (cc)
replies (actions.Swap c) is = absurd (cc)
replies (actions.Detach c cause) is = absurd (cc)
replies (actions.Post c request) is = absurd (cc)
replies (actions.WaitFor c) is = absurd (cc)
replies actions.End is = absurd (cc)

pub ends : (a : RecoveryAction) → asked_of a ≡ asks.End → a ≡ actions.End
ends actions.End is = refl
ends actions.Rest is = absurd (cc)
ends (actions.Gate call) is = absurd (cc)
ends (actions.Swap c) is = absurd (cc)
ends (actions.Detach c cause) is = absurd (cc)
ends (actions.Post c request) is = absurd (cc)
ends (actions.WaitFor c) is = absurd (cc)
ends (actions.Reply outcome status) is = absurd (cc)

pub starts : (a : RecoveryAction) → asked_of a ≡ asks.Gate calls.StartCopy → a ≡ actions.Gate calls.StartCopy
starts (actions.Gate call) is = let same : call ≡ calls.StartCopy = cc in ap actions.Gate same
starts actions.Rest is = absurd (cc)
starts actions.End is = absurd (cc)
starts (actions.Swap c) is = absurd (cc)
starts (actions.Detach c cause) is = absurd (cc)
starts (actions.Post c request) is = absurd (cc)
starts (actions.WaitFor c) is = absurd (cc)
starts (actions.Reply outcome status) is = absurd (cc)

-- the copy is due to start
closing_start : {X : Type 0} (held : Held) (ending : Ending) (o : Owed) → closing_action held ending o ≡ actions.Gate calls.StartCopy → X
closing_start held ending (Transaction side) is = absurd (cc)
closing_start held ending Snapshot is = absurd (cc)
closing_start held ending LiveTransaction is = absurd (cc)
closing_start held ending TheQuiet is = absurd (cc)
closing_start held Attached Nothing is = absurd (cc)
closing_start held (Refused code) Nothing is = absurd (cc)
closing_start held Leaves Nothing is = absurd (cc)

pub starting : (held : Held) (at : Due) → action_at held at ≡ actions.Gate calls.StartCopy → at ≡ StartDue
starting held StartDue is = refl
starting held (Closing ending) is = closing_start held ending (owed held) is
starting held at is = absurd (cc)

-- what the end posts is a rollback
closing_posts : (held : Held) (ending : Ending) (o : Owed) → IsPost (closing_action held ending o) → Posts (closing_action held ending o) requests.Rollback
closing_posts held ending (Transaction side) posts = refl
closing_posts held ending Snapshot posts = absurd posts
closing_posts held ending LiveTransaction posts = absurd posts
closing_posts held ending TheQuiet posts = absurd posts
closing_posts held Attached Nothing posts = absurd posts
closing_posts held (Refused code) Nothing posts = absurd posts
closing_posts held Leaves Nothing posts = absurd posts

pub undoes : (held : Held) (ending : Ending) → IsPost (action_at held (Closing ending)) → Posts (action_at held (Closing ending)) requests.Rollback
undoes held ending posts = closing_posts held ending (owed held) posts

-- what the end detaches is nothing
pub no_detach : {X : Type 0} (held : Held) (ending : Ending) (o : Owed) → IsDetach (closing_action held ending o) → X
no_detach held ending (Transaction side) parts = absurd parts
no_detach held ending Snapshot parts = absurd parts
no_detach held ending LiveTransaction parts = absurd parts
no_detach held ending TheQuiet parts = absurd parts
no_detach held Attached Nothing parts = absurd parts
no_detach held (Refused code) Nothing parts = absurd parts
no_detach held Leaves Nothing parts = absurd parts

-- the reply of the end
pub no_leave : (held : Held) (ending : Ending) (o : Owed) → IsReply (closing_action held ending o) → ending ≡ Leaves → ⊥
no_leave held ending (Transaction side) replies is = replies
no_leave held ending Snapshot replies is = replies
no_leave held ending LiveTransaction replies is = replies
no_leave held ending TheQuiet replies is = replies
no_leave held Attached Nothing replies is = absurd (cc)
no_leave held (Refused code) Nothing replies is = absurd (cc)
no_leave held Leaves Nothing replies is = replies

pub replied_at : (held : Held) (ending : Ending) (o : Owed) (outcome : Outcome) → IsReply (closing_action held ending o) → Some outcome ≡ outcome_of ending
    → actions.Reply outcome Idle ≡ closing_action held ending o
replied_at held ending (Transaction side) outcome replies is = absurd replies
replied_at held ending Snapshot outcome replies is = absurd replies
replied_at held ending LiveTransaction outcome replies is = absurd replies
replied_at held ending TheQuiet outcome replies is = absurd replies
replied_at held Attached Nothing outcome replies is = let same : outcome ≡ _ = cc in ap (λ (o : Outcome). actions.Reply o Idle) same
replied_at held (Refused code) Nothing outcome replies is = let same : outcome ≡ _ = cc in ap (λ (o : Outcome). actions.Reply o Idle) same
replied_at held Leaves Nothing outcome replies is = absurd replies

-- where memory is wanted, the client may be gone
copy_leaves : (at : Due) → IsCopyDue at → may_leave at ≡ true
copy_leaves (PostDue task) copy = refl
copy_leaves at copy = absurd copy

pub want_leaves : {A E : Type 0} (result : Result A E) (at : Due) → IfErr result (λ _. IsCopyDue at) → IfErr result (λ _. may_leave at ≡ true)
want_leaves (Ok a) at wants = wants
want_leaves (Err e) at wants = copy_leaves at wants
