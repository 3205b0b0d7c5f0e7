-- The derived tests for equal values tell just that.
use Rattle.std.proofs.Common.{◌≡◌, true, Some, None, refl, ap, subst, eqb-true, eq-eqb}
use Rattle.std.specs.Prelude.{Option}
use Rattle.std.specs.Cmp.{signed_Decides}
use Rattle.std.specs.Cmp.Lexicographic.{pointwise_decides, bytes_decides}
use Rattle.pool_base.specs.declared.code.Code.{Code}
use Rattle.pool_base.specs.declared.backend_set.BackendSet.{BackendSet}
use Rattle.pool_base.specs.declared.gate_call.GateCall.{GateCall}
use Rattle.pool_base.specs.declared.gate_call.GateCall.TheVariants as calls
use Rattle.sql_eval.specs.declared.row.Row.{Row}
use Rattle.sql_eval.specs.contracts.row.RowPartialEq.TheImpl as row_eq
use Rattle.backend_trait.specs.declared.request.Request.{Request}
use Rattle.backend_trait.specs.declared.request.Request.TheVariants as requests
use Rattle.backend_trait.specs.declared.answer.Answer.{Answer}
use Rattle.backend_trait.specs.declared.answer.Answer.TheVariants as answers
use Rattle.session_orders.specs.declared.outcome.Tag.{Tag}
use Rattle.session_orders.specs.declared.outcome.Tag.TheVariants as tags
use Rattle.session_orders.specs.declared.outcome.Outcome.{Outcome}
use Rattle.session_orders.specs.declared.outcome.Outcome.TheVariants as outcomes
use Rattle.session_machine.specs.declared.status.Status.{Status}
use Rattle.session_machine.specs.declared.status.Status.TheVariants.{Idle, InBlock, Failed}
use Rattle.session_machine.specs.Answers.{is_same}
use Rattle.session_machine.specs.declared.action.Cause.{Cause}
use Rattle.session_machine.specs.declared.action.Cause.TheVariants.{Fault, Differs}
use Rattle.world_program.specs.Deciding.{same_call, same_request, same_tag, same_code, same_warning, same_outcome, same_cause, same_status}
use Rattle.session_machine.proofs.Backends.{same_backend}
use Rattle.session_machine.proofs.SameCode.{same_code as code_is}
use Rattle.backend_trait.proofs.Telling.{Tells, and_true, both_true}
use Rattle.world_program.proofs.Trees.{never, value_told}
use Rattle.world_program.proofs.Statements.{checked_told}

same_row : (x y : Row) → x.cells ≡ y.cells → x ≡ y
same_row x y e = λ i. record { cells = e i }

pub row_told : (x y : Row) → Tells ((row_eq.ghosts).eq x y) (x ≡ y)
row_told x y = (
  λ e. same_row x y ((pointwise_decides value_told x.cells y.cells).0 e),
  λ e. (pointwise_decides value_told x.cells y.cells).1 (ap (λ (r : Row). r.cells) e),
)

code_told : (x y : Code) → Tells (same_code x y) (x ≡ y)
code_told x y = (
  λ e. code_is x y ((bytes_decides x.bytes y.bytes).0 e),
  λ e. (bytes_decides x.bytes y.bytes).1 (ap (λ (c : Code). c.bytes) e),
)

answer_only : (x y : Answer) → is_same x y ≡ true → x ≡ y
answer_only answers.Began answers.Began e = refl
answer_only (answers.Rows a) (answers.Rows b) e = ap answers.Rows ((pointwise_decides row_told a b).0 e)
answer_only (answers.Count a) (answers.Count b) e = ap answers.Count (eqb-true a b e)
answer_only answers.Locked answers.Locked e = refl
answer_only answers.Done answers.Done e = refl
answer_only (answers.Serial a) (answers.Serial b) e = ap answers.Serial ((signed_Decides a b).0 e)
answer_only (answers.Refused a) (answers.Refused b) e = ap answers.Refused ((code_told a b).0 e)
answer_only x y e = never e

answer_itself : (x : Answer) → is_same x x ≡ true
answer_itself answers.Began = refl
answer_itself (answers.Rows a) = (pointwise_decides row_told a a).1 refl
answer_itself (answers.Count a) = eq-eqb a a refl
answer_itself answers.Locked = refl
answer_itself answers.Done = refl
answer_itself (answers.Serial a) = (signed_Decides a a).1 refl
answer_itself (answers.Refused a) = (code_told a a).1 refl

pub answer_told : (x y : Answer) → Tells (is_same x y) (x ≡ y)
answer_told x y = (answer_only x y, λ e. subst (λ (z : Answer). is_same x z ≡ true) e (answer_itself x))

request_only : (x y : Request) → same_request x y ≡ true → x ≡ y
request_only requests.TakeSnapshot requests.TakeSnapshot e = refl
request_only (requests.Run a) (requests.Run b) e = ap requests.Run ((checked_told a b).0 e)
request_only (requests.Lock a) (requests.Lock b) e = ap requests.Lock (eqb-true a b e)
request_only requests.Commit requests.Commit e = refl
request_only requests.Rollback requests.Rollback e = refl
request_only (requests.ReadSerial a) (requests.ReadSerial b) e = ap requests.ReadSerial (eqb-true a b e)
request_only (requests.SetSerial a x) (requests.SetSerial b y) e =
    let h = and_true _ _ e in
    let table : a ≡ b = eqb-true a b h.0 in
    let number : x ≡ y = (signed_Decides x y).0 h.1 in
    cc
request_only x y e = never e

request_itself : (x : Request) → same_request x x ≡ true
request_itself requests.TakeSnapshot = refl
request_itself (requests.Run a) = (checked_told a a).1 refl
request_itself (requests.Lock a) = eq-eqb a a refl
request_itself requests.Commit = refl
request_itself requests.Rollback = refl
request_itself (requests.ReadSerial a) = eq-eqb a a refl
request_itself (requests.SetSerial a x) = both_true _ _ (eq-eqb a a refl) ((signed_Decides x x).1 refl)

pub request_told : (x y : Request) → Tells (same_request x y) (x ≡ y)
request_told x y = (request_only x y, λ e. subst (λ (z : Request). same_request x z ≡ true) e (request_itself x))

tag_only : (x y : Tag) → same_tag x y ≡ true → x ≡ y
tag_only (tags.Select a) (tags.Select b) e = ap tags.Select (eqb-true a b e)
tag_only (tags.Insert a) (tags.Insert b) e = ap tags.Insert (eqb-true a b e)
tag_only (tags.Update a) (tags.Update b) e = ap tags.Update (eqb-true a b e)
tag_only (tags.Delete a) (tags.Delete b) e = ap tags.Delete (eqb-true a b e)
tag_only tags.Begin tags.Begin e = refl
tag_only tags.Commit tags.Commit e = refl
tag_only tags.Rollback tags.Rollback e = refl
tag_only tags.Show tags.Show e = refl
tag_only tags.Recover tags.Recover e = refl
tag_only x y e = never e

tag_itself : (x : Tag) → same_tag x x ≡ true
tag_itself (tags.Select a) = eq-eqb a a refl
tag_itself (tags.Insert a) = eq-eqb a a refl
tag_itself (tags.Update a) = eq-eqb a a refl
tag_itself (tags.Delete a) = eq-eqb a a refl
tag_itself tags.Begin = refl
tag_itself tags.Commit = refl
tag_itself tags.Rollback = refl
tag_itself tags.Show = refl
tag_itself tags.Recover = refl

tag_told : (x y : Tag) → Tells (same_tag x y) (x ≡ y)
tag_told x y = (tag_only x y, λ e. subst (λ (z : Tag). same_tag x z ≡ true) e (tag_itself x))

same_set : (x y : BackendSet) → x.bits ≡ y.bits → x ≡ y
same_set x y e = λ i. record { bits = e i }

warning_only : (x y : Option Code) → same_warning x y ≡ true → x ≡ y
warning_only None None e = refl
warning_only (Some c) (Some d) e = ap (λ (k : Code). Some k) ((code_told c d).0 e)
warning_only x y e = never e

warning_itself : (x : Option Code) → same_warning x x ≡ true
warning_itself None = refl
warning_itself (Some c) = (code_told c c).1 refl

outcome_only : (x y : Outcome) → same_outcome x y ≡ true → x ≡ y
outcome_only (outcomes.Rows a x) (outcomes.Rows b y) e =
    let h = and_true _ _ e in
    let rows : a ≡ b = (pointwise_decides row_told a b).0 h.0 in
    let tag : x ≡ y = (tag_told x y).0 h.1 in
    cc
outcome_only (outcomes.Done a x) (outcomes.Done b y) e =
    let h = and_true _ _ e in
    let tag : a ≡ b = (tag_told a b).0 h.0 in
    let code : x ≡ y = warning_only x y h.1 in
    cc
outcome_only outcomes.Settled outcomes.Settled e = refl
outcome_only (outcomes.Nodes a) (outcomes.Nodes b) e = ap outcomes.Nodes (same_set a b (eqb-true a.bits b.bits e))
outcome_only (outcomes.Error c x) (outcomes.Error d y) e =
    let h = and_true _ _ e in
    let code : c ≡ d = (code_told c d).0 h.0 in
    let name : x ≡ y = (bytes_decides x y).0 h.1 in
    cc
outcome_only x y e = never e

outcome_itself : (x : Outcome) → same_outcome x x ≡ true
outcome_itself (outcomes.Rows a x) = both_true _ _ ((pointwise_decides row_told a a).1 refl) ((tag_told x x).1 refl)
outcome_itself (outcomes.Done a x) = both_true _ _ ((tag_told a a).1 refl) (warning_itself x)
outcome_itself outcomes.Settled = refl
outcome_itself (outcomes.Nodes a) = eq-eqb a.bits a.bits refl
outcome_itself (outcomes.Error c x) = both_true _ _ ((code_told c c).1 refl) ((bytes_decides x x).1 refl)

pub outcome_told : (x y : Outcome) → Tells (same_outcome x y) (x ≡ y)
outcome_told x y = (outcome_only x y, λ e. subst (λ (z : Outcome). same_outcome x z ≡ true) e (outcome_itself x))

status_only : (x y : Status) → same_status x y ≡ true → x ≡ y
status_only Idle Idle e = refl
status_only InBlock InBlock e = refl
status_only Failed Failed e = refl
status_only x y e = never e

status_itself : (x : Status) → same_status x x ≡ true
status_itself Idle = refl
status_itself InBlock = refl
status_itself Failed = refl

pub status_told : (x y : Status) → Tells (same_status x y) (x ≡ y)
status_told x y = (status_only x y, λ e. subst (λ (z : Status). same_status x z ≡ true) e (status_itself x))

call_only : (x y : GateCall) → same_call x y ≡ true → x ≡ y
call_only calls.Look calls.Look e = refl
call_only calls.EnterSnapshot calls.EnterSnapshot e = refl
call_only calls.LeaveSnapshot calls.LeaveSnapshot e = refl
call_only (calls.EnterCommit a) (calls.EnterCommit b) e = ap calls.EnterCommit (eqb-true a b e)
call_only calls.LeaveCommit calls.LeaveCommit e = refl
call_only calls.Finish calls.Finish e = refl
call_only (calls.Detach a) (calls.Detach b) e = ap calls.Detach (same_backend a b (eqb-true a.number b.number e))
call_only calls.StartCopy calls.StartCopy e = refl
call_only calls.AskQuiet calls.AskQuiet e = refl
call_only calls.EnterQuiet calls.EnterQuiet e = refl
call_only (calls.Attach a) (calls.Attach b) e = ap calls.Attach (same_backend a b (eqb-true a.number b.number e))
call_only calls.LeaveQuiet calls.LeaveQuiet e = refl
call_only x y e = never e

call_itself : (x : GateCall) → same_call x x ≡ true
call_itself calls.Look = refl
call_itself calls.EnterSnapshot = refl
call_itself calls.LeaveSnapshot = refl
call_itself (calls.EnterCommit a) = eq-eqb a a refl
call_itself calls.LeaveCommit = refl
call_itself calls.Finish = refl
call_itself (calls.Detach a) = eq-eqb a.number a.number refl
call_itself calls.StartCopy = refl
call_itself calls.AskQuiet = refl
call_itself calls.EnterQuiet = refl
call_itself (calls.Attach a) = eq-eqb a.number a.number refl
call_itself calls.LeaveQuiet = refl

pub call_told : (x y : GateCall) → Tells (same_call x y) (x ≡ y)
call_told x y = (call_only x y, λ e. subst (λ (z : GateCall). same_call x z ≡ true) e (call_itself x))

cause_only : (x y : Cause) → same_cause x y ≡ true → x ≡ y
cause_only (Fault a x) (Fault b y) e =
    let h = and_true _ _ e in
    let before : a ≡ b = eqb-true a b h.0 in
    let later : x ≡ y = eqb-true x y h.1 in
    cc
cause_only (Differs a x) (Differs b y) e =
    let h = and_true _ _ e in
    let kept : a ≡ b = (answer_told a b).0 h.0 in
    let own : x ≡ y = (answer_told x y).0 h.1 in
    cc
cause_only x y e = never e

cause_itself : (x : Cause) → same_cause x x ≡ true
cause_itself (Fault a x) = both_true _ _ (eq-eqb a a refl) (eq-eqb x x refl)
cause_itself (Differs a x) = both_true _ _ ((answer_told a a).1 refl) ((answer_told x x).1 refl)

pub cause_told : (x y : Cause) → Tells (same_cause x y) (x ≡ y)
cause_told x y = (cause_only x y, λ e. subst (λ (z : Cause). same_cause x z ≡ true) e (cause_itself x))
