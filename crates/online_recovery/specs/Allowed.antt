-- Which events may happen at a recovery.
use Rattle.std.specs.Prelude.{◌≡◌, ◌⊎◌, Bool, true, false}
use Rattle.pool_base.specs.Outside.{Rose}
use Rattle.pool_base.specs.declared.gate_call.GateCall.{GateCall}
use Rattle.pool_base.specs.declared.gate_call.GateCall.TheVariants as calls
use Rattle.pool_base.specs.declared.gate_call.GateAnswer.{GateAnswer}
use Rattle.pool_base.specs.declared.gate_call.GateAnswer.TheVariants.{Seen, Granted, Held as IsHeld, Spent}
use Rattle.backend_trait.specs.declared.answer.Answer.{Answer}
use Rattle.backend_trait.specs.Acts.{IsOf}
use Rattle.session_orders.specs.declared.order.OrderBody.{OrderBody}
use Rattle.session_orders.specs.declared.order.OrderBody.TheVariants as orders
use Rattle.session_orders.specs.declared.outcome.Outcome.{Outcome}
use Rattle.session_machine.specs.declared.status.Status.{Status}
use Rattle.session_machine.specs.declared.status.Status.TheVariants.{Idle}
use Rattle.session_machine.specs.Allowed.{is_seen, is_granted, is_granted_or_spent, is_seen_or_granted}
use Rattle.session_machine.specs.Rules.{error_of}
use Rattle.backend_trait.specs.declared.request.Request.TheVariants as requests
use Rattle.online_recovery.specs.declared.action.RecoveryAction.TheVariants as actions
use Rattle.session_machine.specs.declared.action.SessionEvent.{SessionEvent}
use Rattle.session_machine.specs.declared.action.SessionEvent.TheVariants as events
use Rattle.online_recovery.specs.declared.standing.Ending.{Ending}
use Rattle.online_recovery.specs.declared.standing.Ending.TheVariants.{Attached, Refused, Leaves}
use Rattle.online_recovery.specs.declared.standing.Held.{Held}
use Rattle.online_recovery.specs.declared.standing.Due.{Due}
use Rattle.online_recovery.specs.declared.standing.Due.TheVariants.{Resting, LookDue, StartDue, SwapDue, EnterDue, PostDue, Waiting, ShowDue, LeaveSnapshotDue, FinishDue, AskDue, QuietDue, AttachDue, LostDue, Closing, Undoing}
use Rattle.online_recovery.specs.declared.standing.Standing.{Standing}
use Rattle.online_recovery.specs.Codes.{cannot_recover}
use Rattle.online_recovery.specs.Rules.{next_action, request_of}

-- PGPOOL RECOVER comes at rest. That the client is in no block is seen before.

abbrev pub is_resting : Due → Bool
is_resting Resting = true
is_resting (LookDue number) = false
is_resting StartDue = false
is_resting SwapDue = false
is_resting EnterDue = false
is_resting (PostDue task) = false
is_resting (Waiting task) = false
is_resting (ShowDue task answer) = false
is_resting LeaveSnapshotDue = false
is_resting FinishDue = false
is_resting AskDue = false
is_resting QuietDue = false
is_resting AttachDue = false
is_resting (LostDue ending before after) = false
is_resting (Closing ending) = false
is_resting (Undoing side ending) = false

-- a recovery that has attached its target replies first
abbrev pub may_leave_end : Ending → Bool
may_leave_end Attached = false
may_leave_end (Refused code) = true
may_leave_end Leaves = true

-- a Leave may come wherever no request waits for its answer; at rest the session takes it
abbrev pub may_leave : Due → Bool
may_leave Resting = false
may_leave (LookDue number) = true
may_leave StartDue = true
may_leave SwapDue = true
may_leave EnterDue = true
may_leave (PostDue task) = true
may_leave (Waiting task) = false
may_leave (ShowDue task answer) = true
may_leave LeaveSnapshotDue = true
may_leave FinishDue = true
may_leave AskDue = true
may_leave QuietDue = true
may_leave AttachDue = true
may_leave (LostDue ending before after) = may_leave_end ending
may_leave (Closing ending) = may_leave_end ending
may_leave (Undoing side ending) = false

abbrev pub may_order : Due → OrderBody → Bool
may_order at (orders.Recover number) = is_resting at
may_order at orders.Leave = may_leave at
may_order at (orders.Statement work) = false
may_order at orders.Begin = false
may_order at orders.Commit = false
may_order at orders.Rollback = false
may_order at orders.Settle = false
may_order at orders.ShowNodes = false
may_order at (orders.Refuse code name) = false

-- The gate's answers. EnterSnapshot and EnterQuiet that are held are tried again; StartCopy is not.

abbrev pub is_granted_or_held : GateAnswer → Bool
is_granted_or_held (Seen view) = false
is_granted_or_held (Granted view) = true
is_granted_or_held (IsHeld count) = true
is_granted_or_held Spent = false

abbrev pub answers_call : GateCall → GateAnswer → Bool
answers_call calls.Look answer = is_seen answer
answers_call calls.EnterSnapshot answer = is_granted_or_spent answer
answers_call calls.LeaveSnapshot answer = is_granted answer
answers_call (calls.EnterCommit tables) answer = false
answers_call calls.LeaveCommit answer = false
answers_call calls.Finish answer = is_granted answer
answers_call (calls.Detach b) answer = false
answers_call calls.StartCopy answer = is_granted_or_held answer
answers_call calls.AskQuiet answer = is_granted answer
answers_call calls.EnterQuiet answer = is_granted answer
answers_call (calls.Attach b) answer = is_granted_or_spent answer
answers_call calls.LeaveQuiet answer = is_granted answer

-- an answer has the form of the request that waits for it
abbrev pub HasForm : Held → Due → Answer → Type 0
HasForm held (Waiting task) answer = IsOf (request_of held.layout.tables task) answer
HasForm held (Undoing side ending) answer = IsOf requests.Rollback answer
HasForm held at answer = ⊥

-- Whether a spare is left the recovery does not know: where the copy is due to start, the reply that there is none may come in
-- its place.

abbrev pub FindsNoSpare : Due → Outcome → Status → Type 0
FindsNoSpare at outcome status = (at ≡ StartDue) × (outcome ≡ error_of cannot_recover) × (status ≡ Idle)

-- an event may happen where it is what is due, or is an order that the recovery takes there
abbrev pub MayHappen : Standing → SessionEvent → Type 0
MayHappen s (events.Ordered order) = may_order s.due order.body ≡ true
MayHappen s (events.Called call answer) = (next_action s ≡ actions.Gate call) × (answers_call call answer ≡ true)
MayHappen s (events.Swapped b) = next_action s ≡ actions.Swap b
MayHappen s (events.Posted b request) = next_action s ≡ actions.Post b request
MayHappen s (events.Taken b answer) = (next_action s ≡ actions.WaitFor b) × HasForm s.held s.due answer
MayHappen s (events.Faulted b before after) = (next_action s ≡ actions.WaitFor b) × Rose before after
MayHappen s (events.Detached b cause answer) = (next_action s ≡ actions.Detach b cause) × (is_seen_or_granted answer ≡ true)
MayHappen s (events.Replied outcome status) = (next_action s ≡ actions.Reply outcome status) ⊎ FindsNoSpare s.due outcome status
MayHappen s events.Ended = next_action s ≡ actions.End
