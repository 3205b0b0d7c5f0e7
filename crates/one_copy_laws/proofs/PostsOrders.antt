-- Which orders begin the chain of a commit without changes, and what they leave of what is awaited.
use Rattle.std.proofs.Common.{◌≡◌, ℕ, true, false, refl, ◌∙◌}
use Rattle.std.specs.Prelude.{ℤ, Option, Some, None}
use Rattle.pool_base.specs.declared.backend_id.BackendId.{BackendId}
use Rattle.session_orders.specs.declared.order.OrderBody.{OrderBody}
use Rattle.session_orders.specs.declared.order.OrderBody.TheVariants as orders
use Rattle.session_orders.specs.declared.outcome.Outcome.{Outcome}
use Rattle.session_orders.specs.declared.outcome.Outcome.TheVariants as outcomes
use Rattle.session_orders.specs.declared.outcome.Tag.TheVariants as tags
use Rattle.session_machine.specs.declared.status.Status.{Status}
use Rattle.session_machine.specs.declared.status.Status.TheVariants.{Idle, InBlock, Failed}
use Rattle.session_machine.specs.declared.work.Work.{Work}
use Rattle.session_machine.specs.declared.machine.GatePhase.{GatePhase}
use Rattle.session_machine.specs.declared.machine.GatePhase.TheVariants as phases
use Rattle.session_machine.specs.declared.machine.Session.{Session}
use Rattle.session_machine.specs.declared.machine.Stage.{Stage}
use Rattle.session_machine.specs.declared.machine.Stage.TheVariants.{Opening, Reading, Running, Locking, Inserting, Committing, Closing, RollingBack}
use Rattle.session_machine.specs.declared.machine.Point.{Point}
use Rattle.session_machine.specs.declared.machine.Point.TheVariants.{Resting, EnterDue, LookDue, PostDue, Waiting, LostDue, SplitDue, ChooseDue, ShowDue, LeaveSnapshotDue, UnwindDue, EnterCommitDue, LeaveCommitDue, FinishDue, ReplyDue, EndDue}
use Rattle.session_machine.specs.Allowed.{may_order, fits_at_rest, is_resting}
use Rattle.session_machine.specs.Classes.{work_in}
use Rattle.session_machine.specs.Codes.{moment_out_of_range}
use Rattle.session_machine.specs.Rules.{error_of, done_with, moment_at, rewritten, entering, stated, stated_at, block_begun, committing, block_committed, rolled_back, block_rolled_back, settled, leaving, left_in, left_lost, left, ordered}
use Rattle.one_copy_laws.specs.Posts.{awaited_at}
use Rattle.one_copy_laws.proofs.PostsSteps.{Closes, no_close, refused_not, started_not}

abbrev pub IsUnchanged : GatePhase → Type 0
IsUnchanged phase = (tables : ℕ) × (phase ≡ phases.Live false tables)

entering_not : (session : Session) (phase : GatePhase) (work : Work) → Closes (entering session phase work) → ⊥
entering_not session phases.Out work e = no_close e refl
entering_not session phases.InSnapshot work e = started_not session work e
entering_not session (phases.Live changed tables) work e = started_not session work e
entering_not session phases.InCommit work e = started_not session work e

stated_not : (session : Session) (moment : ℤ) (found : Option Work) → Closes (stated session moment found) → ⊥
stated_not session moment None e = refused_not false session (error_of moment_out_of_range) e
stated_not session moment (Some work) e = entering_not (record session { moment = moment }) session.gate work e

stated_at_not : (session : Session) (moment : ℤ) (work : Work) → Closes (stated_at session moment work) → ⊥
unfolding stated_at
stated_at_not session moment work e = stated_not session moment (rewritten moment work) e

begun_not : (session : Session) (moment : ℤ) (status : Status) → Closes (block_begun session moment status) → ⊥
unfolding block_begun
begun_not session moment Idle e = no_close e refl
begun_not session moment InBlock e = no_close e refl
begun_not session moment Failed e = no_close e refl

committing_from : (session : Session) (phase : GatePhase) (outcome : Outcome) → Closes (committing session phase outcome) → IsUnchanged phase
committing_from session phases.Out outcome e = absurd (no_close e refl)
committing_from session phases.InSnapshot outcome e = absurd (no_close e refl)
committing_from session (phases.Live true tables) outcome e = absurd (no_close e refl)
committing_from session (phases.Live false tables) outcome e = (tables, refl)
committing_from session phases.InCommit outcome e = absurd (no_close e refl)

committed_from : (session : Session) (status : Status) → Closes (block_committed session status) → IsUnchanged session.gate
unfolding block_committed
committed_from session Idle e = absurd (no_close e refl)
committed_from session InBlock e = committing_from session session.gate (done_with tags.Commit) e
committed_from session Failed e = absurd (no_close e refl)

settled_from : (session : Session) (status : Status) → Closes (settled session status) → IsUnchanged session.gate
unfolding settled
settled_from session Idle e = committing_from session session.gate outcomes.Settled e
settled_from session InBlock e = absurd (no_close e refl)
settled_from session Failed e = absurd (no_close e refl)

rolled_not : (session : Session) (phase : GatePhase) → Closes (rolled_back session phase) → ⊥
rolled_not session phases.Out e = no_close e refl
rolled_not session phases.InSnapshot e = no_close e refl
rolled_not session (phases.Live changed tables) e = no_close e refl
rolled_not session phases.InCommit e = no_close e refl

block_rolled_not : (session : Session) (status : Status) → Closes (block_rolled_back session status) → ⊥
unfolding block_rolled_back
block_rolled_not session Idle e = no_close e refl
block_rolled_not session InBlock e = rolled_not session session.gate e
block_rolled_not session Failed e = no_close e refl

leaving_not : (session : Session) (phase : GatePhase) → Closes (leaving session phase) → ⊥
leaving_not session phases.Out e = no_close e refl
leaving_not session phases.InSnapshot e = no_close e refl
leaving_not session (phases.Live changed tables) e = no_close e refl
leaving_not session phases.InCommit e = no_close e refl

left_in_not : (session : Session) (stage : Stage) → Closes (left_in session stage) → ⊥
left_in_not session (RollingBack ending) e = no_close e refl
left_in_not session (Opening work) e = leaving_not session session.gate e
left_in_not session (Reading work ticket) e = leaving_not session session.gate e
left_in_not session (Running work) e = leaving_not session session.gate e
left_in_not session (Locking work table) e = leaving_not session session.gate e
left_in_not session (Inserting work posted) e = leaving_not session session.gate e
left_in_not session Committing e = leaving_not session session.gate e
left_in_not session Closing e = leaving_not session session.gate e

left_lost_not : (session : Session) (stage : Stage) (b : BackendId) (before more : ℕ) → Closes (left_lost session stage b before more) → ⊥
left_lost_not session (Opening work) b before more e = no_close e refl
left_lost_not session (Reading work ticket) b before more e = no_close e refl
left_lost_not session (Running work) b before more e = no_close e refl
left_lost_not session (Locking work table) b before more e = no_close e refl
left_lost_not session (Inserting work posted) b before more e = no_close e refl
left_lost_not session Committing b before more e = no_close e refl
left_lost_not session Closing b before more e = no_close e refl
left_lost_not session (RollingBack ending) b before more e = no_close e refl

left_not : (session : Session) (point : Point) → Closes (left session point) → ⊥
unfolding left
left_not session (LookDue stage) e = left_in_not session stage e
left_not session (PostDue stage b) e = left_in_not session stage e
left_not session (Waiting stage b) e = left_in_not session stage e
left_not session (SplitDue stage best own among more) e = left_in_not session stage e
left_not session (LostDue stage b before more) e = left_lost_not session stage b before more e
left_not session (UnwindDue ending) e = no_close e refl
left_not session (LeaveCommitDue ending) e = no_close e refl
left_not session (FinishDue ending) e = no_close e refl
left_not session Resting e = leaving_not session session.gate e
left_not session (EnterDue work) e = leaving_not session session.gate e
left_not session (ChooseDue work) e = leaving_not session session.gate e
left_not session ShowDue e = leaving_not session session.gate e
left_not session (LeaveSnapshotDue work) e = leaving_not session session.gate e
left_not session EnterCommitDue e = leaving_not session session.gate e
left_not session (ReplyDue outcome) e = leaving_not session session.gate e
left_not session EndDue e = leaving_not session session.gate e

rests : (point : Point) (status : Status) (phase : GatePhase) (body : OrderBody) → fits_at_rest (is_resting point) status phase body ≡ true → point ≡ Resting
rests Resting status phase body e = refl
rests point status phase body e = absurd (let z : false ≡ true = e in cc)

-- it begins at rest, where no write has succeeded
pub closes_from : (session : Session) (point : Point) (moment : ℤ) (body : OrderBody) → may_order session point body ≡ true
    → Closes (ordered session point moment body) → (point ≡ Resting) × IsUnchanged session.gate
unfolding ordered
closes_from session point moment (orders.Statement checked) may e =
    absurd (stated_at_not session (moment_at session.status session.gate session.moment moment) (work_in checked) e)
closes_from session point moment orders.Begin may e = absurd (begun_not session moment session.status e)
closes_from session point moment orders.Commit may e =
    (rests point session.status session.gate orders.Commit may, committed_from session session.status e)
closes_from session point moment orders.Rollback may e = absurd (block_rolled_not session session.status e)
closes_from session point moment orders.Settle may e =
    (rests point session.status session.gate orders.Settle may, settled_from session session.status e)
closes_from session point moment orders.ShowNodes may e = absurd (no_close e refl)
closes_from session point moment (orders.Recover b) may e = absurd (no_close e refl)
closes_from session point moment (orders.Refuse code name) may e = absurd (refused_not false session (outcomes.Error code name) e)
closes_from session point moment orders.Leave may e = absurd (left_not session point e)

-- Where an answer is awaited no order comes, and where a loss was seen only a Leave, which leaves its detachment due.

left_lost_awaits : (session : Session) (stage : Stage) (b : BackendId) (before more : ℕ) → awaited_at (left_lost session stage b before more).point ≡ Some b.number
left_lost_awaits session (Opening work) b before more = refl
left_lost_awaits session (Reading work ticket) b before more = refl
left_lost_awaits session (Running work) b before more = refl
left_lost_awaits session (Locking work table) b before more = refl
left_lost_awaits session (Inserting work posted) b before more = refl
left_lost_awaits session Committing b before more = refl
left_lost_awaits session Closing b before more = refl
left_lost_awaits session (RollingBack ending) b before more = refl

leave_awaits : (session : Session) (stage : Stage) (b : BackendId) (before more : ℕ) → awaited_at (left session (LostDue stage b before more)).point ≡ Some b.number
unfolding left
leave_awaits session stage b before more = left_lost_awaits session stage b before more

lost_awaits : (session : Session) (stage : Stage) (b : BackendId) (before more : ℕ) (moment : ℤ) (body : OrderBody) → may_order session (LostDue stage b before more) body ≡ true
    → awaited_at (ordered session (LostDue stage b before more) moment body).point ≡ Some b.number
unfolding ordered
lost_awaits session stage b before more moment orders.Leave may = leave_awaits session stage b before more
lost_awaits session stage b before more moment body may = absurd (let z : false ≡ true = may in cc)

waiting_takes_none : (session : Session) (stage : Stage) (b : BackendId) (body : OrderBody) → may_order session (Waiting stage b) body ≡ true → ⊥
waiting_takes_none session stage b (orders.Statement checked) may = let z : false ≡ true = may in cc
waiting_takes_none session stage b orders.Begin may = let z : false ≡ true = may in cc
waiting_takes_none session stage b orders.Commit may = let z : false ≡ true = may in cc
waiting_takes_none session stage b orders.Rollback may = let z : false ≡ true = may in cc
waiting_takes_none session stage b orders.Settle may = let z : false ≡ true = may in cc
waiting_takes_none session stage b orders.ShowNodes may = let z : false ≡ true = may in cc
waiting_takes_none session stage b (orders.Recover c) may = let z : false ≡ true = may in cc
waiting_takes_none session stage b (orders.Refuse code name) may = let z : false ≡ true = may in cc
waiting_takes_none session stage b orders.Leave may = let z : false ≡ true = may in cc

pub awaits_on : (session : Session) (point : Point) (moment : ℤ) (body : OrderBody) (b : ℕ) → may_order session point body ≡ true
    → awaited_at point ≡ Some b → awaited_at (ordered session point moment body).point ≡ Some b
awaits_on session (Waiting stage c) moment body b may e = absurd (waiting_takes_none session stage c body may)
awaits_on session (LostDue stage c before more) moment body b may e =
    let here : awaited_at (ordered session (LostDue stage c before more) moment body).point ≡ Some c.number = lost_awaits session stage c before more moment body may in
    here ∙ e
awaits_on session point moment body b may e = absurd (let z : None ≡ Some b = e in cc)
