-- The tests by which the program decides.
use Rattle.std.specs.Prelude.{Bool, true, false, not, ◌&&◌, ◌==◌, nat_lt, Option, Some, None}
use Rattle.pool_base.specs.Sets.{has}
use Rattle.pool_base.specs.declared.backend_id.BackendId.{BackendId}
use Rattle.pool_base.specs.declared.gate_call.GateCall.{GateCall}
use Rattle.pool_base.specs.declared.gate_call.GateCall.TheVariants as calls
use Rattle.pool_base.specs.contracts.gate_call.GateCallPartialEq.TheImpl as call_eq
use Rattle.pool_base.specs.declared.gate_call.GateAnswer.{GateAnswer}
use Rattle.pool_base.specs.declared.gate_call.GateAnswer.TheVariants.{Seen, Granted, Held, Spent}
use Rattle.pool_base.specs.declared.gate_call.View.{View}
use Rattle.pool_base.specs.contracts.code.CodePartialEq.TheImpl as code_eq
use Rattle.pool_base.specs.declared.code.Code.{Code}
use Rattle.std.specs.Str.{bytes_eq}
use Rattle.backend_trait.specs.declared.request.Request.{Request}
use Rattle.backend_trait.specs.contracts.request.RequestPartialEq.TheImpl as request_eq
use Rattle.backend_trait.specs.declared.answer.Answer.TheVariants as answers
use Rattle.session_orders.specs.declared.outcome.Tag.{Tag}
use Rattle.session_orders.specs.contracts.outcome.TagPartialEq.TheImpl as tag_eq
use Rattle.session_orders.specs.declared.outcome.Outcome.{Outcome}
use Rattle.session_orders.specs.declared.outcome.Outcome.TheVariants as outcomes
use Rattle.session_machine.specs.declared.status.Status.{Status}
use Rattle.session_machine.specs.contracts.status.StatusPartialEq.TheImpl as status_eq
use Rattle.session_machine.specs.declared.machine.Point.{Point}
use Rattle.session_machine.specs.declared.machine.Point.TheVariants.{ReplyDue}
use Rattle.session_machine.specs.declared.action.Cause.{Cause}
use Rattle.session_machine.specs.declared.action.Cause.TheVariants.{Fault, Differs}
use Rattle.session_machine.specs.Answers.{is_same}
use Rattle.session_machine.specs.Allowed.{answers_call, is_seen_or_granted}
use Rattle.session_engine.specs.declared.ask.Ask.{Ask}
use Rattle.session_engine.specs.declared.ask.Ask.TheVariants as asks
use Rattle.snapshot_gate.specs.declared.state.GateState.{GateState}

-- The gate.

-- whether a call meets its condition
abbrev pub may_call : GateState → GateCall → Bool
may_call g calls.Look = true
may_call g calls.EnterSnapshot = true
may_call g calls.LeaveSnapshot = nat_lt 0 g.snaps
may_call g (calls.EnterCommit tables) = nat_lt g.commits g.live
may_call g calls.LeaveCommit = nat_lt 0 g.commits
may_call g calls.Finish = nat_lt g.commits g.live
may_call g (calls.Detach b) = true
may_call g calls.StartCopy = true
may_call g calls.AskQuiet = g.quiet == 1
may_call g calls.EnterQuiet = g.quiet == 2
may_call g (calls.Attach b) = (g.quiet == 3) && not (has g.attached.bits b.number)
may_call g calls.LeaveQuiet = nat_lt 0 g.quiet

abbrev pub same_view : View → View → Bool
same_view x y = (x.attached.bits == y.attached.bits) && ((x.epoch == y.epoch) && ((x.touched == y.touched) && (x.done == y.done)))

abbrev pub same_gate : GateAnswer → GateAnswer → Bool
same_gate (Seen x) (Seen y) = same_view x y
same_gate (Seen x) (Granted y) = false
same_gate (Seen x) (Held m) = false
same_gate (Seen x) Spent = false
same_gate (Granted x) (Seen y) = false
same_gate (Granted x) (Granted y) = same_view x y
same_gate (Granted x) (Held m) = false
same_gate (Granted x) Spent = false
same_gate (Held n) (Seen y) = false
same_gate (Held n) (Granted y) = false
same_gate (Held n) (Held m) = n == m
same_gate (Held n) Spent = false
same_gate Spent (Seen y) = false
same_gate Spent (Granted y) = false
same_gate Spent (Held m) = false
same_gate Spent Spent = true

-- Equal values.

abbrev pub same_call : GateCall → GateCall → Bool
same_call = (call_eq.ghosts).eq

abbrev pub same_request : Request → Request → Bool
same_request = (request_eq.ghosts).eq

abbrev pub same_tag : Tag → Tag → Bool
same_tag = (tag_eq.ghosts).eq

abbrev pub same_code : Code → Code → Bool
same_code = (code_eq.ghosts).eq

abbrev pub same_status : Status → Status → Bool
same_status = (status_eq.ghosts).eq

abbrev pub same_warning : Option Code → Option Code → Bool
same_warning None None = true
same_warning None (Some y) = false
same_warning (Some x) None = false
same_warning (Some x) (Some y) = same_code x y

abbrev pub same_outcome : Outcome → Outcome → Bool
same_outcome (outcomes.Rows a x) (outcomes.Rows b y) = is_same (answers.Rows a) (answers.Rows b) && same_tag x y
same_outcome (outcomes.Done a x) (outcomes.Done b y) = same_tag a b && same_warning x y
same_outcome outcomes.Settled outcomes.Settled = true
same_outcome (outcomes.Nodes a) (outcomes.Nodes b) = a.bits == b.bits
same_outcome (outcomes.Error a x) (outcomes.Error b y) = same_code a b && bytes_eq x y
same_outcome x y = false

abbrev pub same_cause : Cause → Cause → Bool
same_cause (Fault a x) (Fault b y) = (a == b) && (x == y)
same_cause (Fault a x) (Differs b y) = false
same_cause (Differs a x) (Fault b y) = false
same_cause (Differs a x) (Differs b y) = is_same a b && is_same x y

-- What is due of a session.

abbrev pub is_call_due : Ask → GateCall → GateAnswer → Bool
is_call_due (asks.Gate due) call answer = same_call due call && answers_call call answer
is_call_due ask call answer = false

abbrev pub post_due : Ask → Option BackendId
post_due (asks.Post b) = Some b
post_due ask = None

abbrev pub detach_due : Ask → Option BackendId
detach_due (asks.Detach b) = Some b
detach_due ask = None

abbrev pub is_end_due : Ask → Bool
is_end_due asks.End = true
is_end_due ask = false

abbrev pub is_post : BackendId → Request → BackendId → Request → Bool
is_post due made b request = (due.number == b.number) && same_request made request

abbrev pub is_detach : BackendId → Cause → BackendId → Cause → GateAnswer → Bool
is_detach due made b cause answer = (due.number == b.number) && (same_cause made cause && is_seen_or_granted answer)

abbrev pub is_reply_due : Point → Outcome → Bool
is_reply_due (ReplyDue due) outcome = same_outcome due outcome
is_reply_due point outcome = false

abbrev pub is_reply : Status → Point → Outcome → Status → Bool
is_reply own point outcome status = is_reply_due point outcome && same_status own status
