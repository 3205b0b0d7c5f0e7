-- Every event keeps the invariant: each call of the gate, each other event of a session, each act of a store and each loss.
use Rattle.std.proofs.Common.{◌≡◌, true, false}
use Rattle.pool_base.specs.declared.session_id.SessionId.{SessionId}
use Rattle.pool_base.specs.declared.gate_call.GateCall.{GateCall}
use Rattle.pool_base.specs.declared.gate_call.GateCall.TheVariants as calls
use Rattle.pool_base.specs.declared.gate_call.GateAnswer.{GateAnswer}
use Rattle.schema.specs.Allowed.{AreAllowed}
use Rattle.session_machine.specs.declared.action.SessionEvent.{SessionEvent}
use Rattle.session_machine.specs.declared.action.SessionEvent.TheVariants as events
use Rattle.one_copy_model.specs.declared.event.Event.{Event}
use Rattle.one_copy_model.specs.declared.event.Event.TheVariants.{Of, Act, Lost}
use Rattle.one_copy_model.specs.World.{MayHappen}
use Rattle.one_copy_model.specs.Tracking.{Tracked, tracked_after}
use Rattle.one_copy_model.specs.Invariant.{Invariant}
use Rattle.one_copy_model.proofs.LossLaws.{loss_kept}
use Rattle.one_copy_laws.proofs.GateEnterLaw.{enter_snapshot_kept}
use Rattle.one_copy_laws.proofs.GateLeaveLaw.{leave_snapshot_kept}
use Rattle.one_copy_laws.proofs.GateFinishing.{finish_kept, leave_commit_kept}
use Rattle.one_copy_laws.proofs.CommitsEnterCommitLaw.{enter_commit_kept}
use Rattle.one_copy_laws.proofs.OrdersOrderLaw.{order_kept}
use Rattle.one_copy_laws.proofs.PostsPosting.{post_kept}
use Rattle.one_copy_laws.proofs.ChainsTaking.{take_kept}
use Rattle.one_copy_laws.proofs.ChainsFaulting.{fault_kept}
use Rattle.one_copy_laws.proofs.RepliesReplying.{end_kept, reply_kept}
use Rattle.one_copy_laws.proofs.ActsLaws.{act_kept}
use Rattle.one_copy_laws.proofs.InductionLooks.{look_kept}
use Rattle.one_copy_laws.proofs.InductionDetaching.{detachment_kept}

module _ (t : Tracked) (s : SessionId) (h : Invariant t) where
  -- a session makes six calls; a detachment is an event of its own, and the calls of a recovery no session's machine makes
  called : (call : GateCall) (answer : GateAnswer) → MayHappen t.world (Of s (events.Called call answer))
      → Invariant (tracked_after t (Of s (events.Called call answer)))
  called calls.Look answer may = look_kept t s answer h may
  called calls.EnterSnapshot answer may = enter_snapshot_kept t s answer h may
  called calls.LeaveSnapshot answer may = leave_snapshot_kept t s answer h may
  called (calls.EnterCommit written) answer may = enter_commit_kept t s written answer h may
  called calls.LeaveCommit answer may = leave_commit_kept t s answer h may
  called calls.Finish answer may = finish_kept t s answer h may
  called (calls.Detach b) answer may = absurd (let z : false ≡ true = may.0.1 in cc)
  called calls.StartCopy answer may = absurd (let z : false ≡ true = may.0.1 in cc)
  called calls.AskQuiet answer may = absurd (let z : false ≡ true = may.0.1 in cc)
  called calls.EnterQuiet answer may = absurd (let z : false ≡ true = may.0.1 in cc)
  called (calls.Attach b) answer may = absurd (let z : false ≡ true = may.0.1 in cc)
  called calls.LeaveQuiet answer may = absurd (let z : false ≡ true = may.0.1 in cc)

  of_session : (event : SessionEvent) → MayHappen t.world (Of s event) → Invariant (tracked_after t (Of s event))
  of_session (events.Ordered order) may = order_kept t s order h may
  of_session (events.Called call answer) may = called call answer may
  of_session (events.Posted b request) may = post_kept t s b request h may
  of_session (events.Taken b answer) may = take_kept t s b answer h may
  of_session (events.Faulted b before more) may = fault_kept t s b before more h may
  of_session (events.Detached b cause answer) may = detachment_kept t s b cause answer h may
  of_session (events.Swapped b) may = absurd may.0
  of_session (events.Replied outcome status) may = reply_kept t s outcome status h may
  of_session events.Ended may = end_kept t s h may

pub event_kept : (t : Tracked) (e : Event) → Invariant t → AreAllowed t.world.tables → MayHappen t.world e → Invariant (tracked_after t e)
event_kept t (Of s event) h allowed may = of_session t s h event may
event_kept t (Act s b answer) h allowed may = act_kept t s b answer h allowed may
event_kept t (Lost b) h allowed may = loss_kept t b h
