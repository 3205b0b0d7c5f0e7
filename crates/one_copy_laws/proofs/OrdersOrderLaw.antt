-- A Leave at each point, and the law of orders.
use Rattle.std.proofs.Common.{◌≡◌, ℕ, true, false, [], refl, sym, ap, ◌∙◌, subst}
use Rattle.std.specs.Prelude.{Option, Some, None}
use Rattle.pool_base.specs.declared.session_id.SessionId.{SessionId}
use Rattle.backend_trait.specs.declared.answer.Answer.{Answer}
use Rattle.session_machine.specs.declared.action.SessionEvent.TheVariants.{Ordered}
use Rattle.session_orders.specs.declared.order.Order.{Order}
use Rattle.session_orders.specs.declared.order.OrderBody.{OrderBody}
use Rattle.session_orders.specs.declared.order.OrderBody.TheVariants as orders
use Rattle.session_machine.specs.declared.status.Status.{Status}
use Rattle.session_machine.specs.declared.machine.GatePhase.{GatePhase}
use Rattle.session_machine.specs.declared.machine.GatePhase.TheVariants as phases
use Rattle.session_machine.specs.declared.machine.Machine.{Machine}
use Rattle.session_machine.specs.declared.machine.Session.{Session}
use Rattle.session_machine.specs.declared.machine.Stage.{Stage}
use Rattle.session_machine.specs.declared.machine.Point.{Point}
use Rattle.session_machine.specs.Rules.{ordered}
use Rattle.one_copy_model.specs.declared.event.Event.TheVariants.{Of}
use Rattle.one_copy_model.specs.Deaths.{stage_at}
use Rattle.one_copy_model.specs.Tracking.{Tracked, tracked_after, in_commit}
use Rattle.one_copy_model.specs.Orders.{OrderAt, reply_in, IsClassedAt}
use Rattle.one_copy_model.specs.Invariant.{Invariant, FitsPoint, wants_of, IsUnderWay}
use Rattle.one_copy_model.specs.Own.{told_by, stand}
use Rattle.one_copy_model.specs.World.{MayHappen}
use Rattle.session_machine.specs.Rules.{due}
use Rattle.session_machine.specs.declared.machine.Point.TheVariants.{Resting, LookDue, ReplyDue, EnterDue, ShowDue, EnterCommitDue}
use Rattle.session_machine.specs.declared.machine.Stage.TheVariants.{Opening, Reading, Running, Locking, Inserting, Committing, RollingBack, Closing}
use Rattle.session_machine.specs.declared.machine.Ending.{Ending as MachineEnding}
use Rattle.one_copy_model.specs.Standing.{Nowhere, standing_by}
use Rattle.one_copy_laws.proofs.OrdersOrdering.{its, told_now}
use Rattle.one_copy_laws.proofs.OrdersLeading.{rolls}
use Rattle.session_machine.specs.Allowed.{fits}
use Rattle.session_machine.specs.declared.machine.Point.TheVariants.{ChooseDue}
use Rattle.pool_base.specs.Outside.{Rose}
use Rattle.pool_base.specs.declared.backend_id.BackendId.{BackendId}
use Rattle.session_machine.specs.declared.action.Cause.{Cause}
use Rattle.session_machine.specs.declared.action.Action.TheVariants as actions
use Rattle.session_machine.specs.declared.machine.Ending.TheVariants.{Leaves as EndsWith}
use Rattle.session_machine.specs.declared.machine.Point.TheVariants.{PostDue, Waiting, LostDue, SplitDue, LeaveSnapshotDue, UnwindDue, LeaveCommitDue, FinishDue, EndDue}
use Rattle.session_machine.specs.Rules.{next_action, leaving, left}
use Rattle.session_machine.specs.Allowed.{may_leave}
use Rattle.one_copy_model.specs.Statement.{HasCause}
use Rattle.session_machine.specs.Rules.{left_in, action_at}
use Rattle.pool_base.specs.declared.gate_call.GateCall.TheVariants as calls
use Rattle.one_copy_laws.proofs.OrdersLeaving.{rolls_from, goes_off, outside}
use Rattle.session_machine.specs.declared.action.Cause.TheVariants.{Fault}
use Rattle.session_machine.specs.Allowed.{may_order, fits_at_rest, is_resting}
use Rattle.one_copy_laws.proofs.OrdersParting.{leaves_in, rolls_on, fits_rolling, no_stage_out}
use Rattle.one_copy_laws.proofs.OrdersAnswering.{begin_kept, show_kept, refuse_kept}
use Rattle.one_copy_laws.proofs.OrdersRolling.{rollback_kept}
use Rattle.one_copy_laws.proofs.OrdersCommitting.{commit_kept, settle_kept}
use Rattle.one_copy_laws.proofs.OrdersStating.{statement_kept}

cause_of : (n : Machine) (b c : BackendId) (own cause : Cause) → HasCause n b own → actions.Detach b own ≡ actions.Detach c cause → HasCause n c cause
cause_of n b c own cause has e =
    subst (λ x. HasCause n x cause) (let same : b ≡ c = cc in same)
    (subst (HasCause n b) (let same : own ≡ cause = cc in same) has)

fits_back : (stage : Stage) (phase : GatePhase) → FitsPoint (Some stage) (LookDue stage) phase → in_commit phase ≡ false → FitsPoint (Some (RollingBack EndsWith)) (LookDue (RollingBack EndsWith)) phase
fits_back stage phases.Out f out = absurd (no_stage_out stage f)
fits_back stage phases.InSnapshot f out = refl
fits_back stage (phases.Live changed written) f out = refl
fits_back stage phases.InCommit f out = absurd (let z : true ≡ false = out in cc)

module _ (t : Tracked) (h : Invariant t) (s : SessionId) (order : Order) (is : order.body ≡ orders.Leave) (may : may_leave (its t s order).point ≡ true) where
  abbrev m : Machine
  m = t.world.machine s.number

  abbrev Kept : Type 0
  Kept = Invariant (tracked_after t (Of s (Ordered order)))

  to_left : (point : Point) → m.point ≡ point → ordered m.session m.point order.moment order.body ≡ left m.session point
  unfolding ordered
  to_left point at = ap (ordered m.session m.point order.moment) is ∙ ap (left m.session) at

  plainly : ordered m.session m.point order.moment order.body ≡ leaving m.session m.session.gate → Kept
  plainly to = leaves_in t h s order is may m.session.gate refl to

  rolling : (point : Point) → m.point ≡ point → (ending : MachineEnding) → stage_at point ≡ Some (RollingBack ending) → left m.session point ≡ due m.session (LookDue (RollingBack EndsWith)) → Kept
  rolling point at ending rolls to =
      rolls_on t h s order is may ending (ap stage_at at ∙ rolls) (due m.session (LookDue (RollingBack EndsWith))) refl refl refl refl
      (λ b cause e. absurd (let z : actions.Gate calls.Look ≡ actions.Detach b cause = e in cc))
      (fits_rolling m.session.gate ending EndsWith (subst (λ x. FitsPoint x (LookDue (RollingBack ending)) m.session.gate) rolls (subst (λ (p : Point). FitsPoint (stage_at p) (LookDue (RollingBack ending)) m.session.gate) at (by_stage (stage_at m.point) (ap stage_at at ∙ rolls) (h.inside s.number)))))
      refl refl refl tt (to_left point at ∙ to)
    where
      by_stage : (found : Option Stage) → found ≡ Some (RollingBack ending) → FitsPoint found m.point m.session.gate → FitsPoint found (LookDue (RollingBack ending)) m.session.gate
      by_stage (Some stage) e f = f
      by_stage None e f = absurd (let z : None ≡ Some (RollingBack ending) = e in cc)

  at_stage : (point : Point) → m.point ≡ point → (stage : Stage) → stage_at point ≡ Some stage → left m.session point ≡ left_in m.session stage → Kept
  at_stage point at (RollingBack ending) found to = rolling point at ending found to
  at_stage point at (Opening work) found to = plainly (to_left point at ∙ to)
  at_stage point at (Reading work ticket) found to = plainly (to_left point at ∙ to)
  at_stage point at (Running work) found to = plainly (to_left point at ∙ to)
  at_stage point at (Locking work table) found to = plainly (to_left point at ∙ to)
  at_stage point at (Inserting work posted) found to = plainly (to_left point at ∙ to)
  at_stage point at Committing found to = plainly (to_left point at ∙ to)
  at_stage point at Closing found to = plainly (to_left point at ∙ to)

  -- a loss was seen: its detachment stays due
  module _ (stage : Stage) (b : BackendId) (before more : ℕ) (at : m.point ≡ LostDue stage b before more) where
    lost_fits : FitsPoint (Some stage) (LookDue stage) m.session.gate
    lost_fits = subst (λ (p : Point). FitsPoint (stage_at p) p m.session.gate) at (h.inside s.number)

    lost_rose : Rose before more
    lost_rose = (h.causes s.number b (Fault before more) (ap (action_at m.session) at)).rose

    lost_cause : (session : Session) (c : BackendId) (cause : Cause) → next_action (due session (LostDue (RollingBack EndsWith) b before more)) ≡ actions.Detach c cause → HasCause (due session (LostDue (RollingBack EndsWith) b before more)) c cause
    lost_cause session c cause e =
        cause_of (due session (LostDue (RollingBack EndsWith) b before more)) b c (Fault before more) cause
        (record { stage = RollingBack EndsWith; due = refl; rose = lost_rose }) e

    lost_begins : left m.session (LostDue stage b before more) ≡ due (record m.session { heard = [] }) (LostDue (RollingBack EndsWith) b before more) → Kept
    lost_begins to =
        rolls_from t h s order is may (due (record m.session { heard = [] }) (LostDue (RollingBack EndsWith) b before more)) refl refl refl refl refl
        (lost_cause (record m.session { heard = [] }))
        (fits_back stage m.session.gate lost_fits (outside t h s order is may)) refl refl refl tt (to_left (LostDue stage b before more) at ∙ to)

  at_loss : (stage : Stage) (b : BackendId) (before more : ℕ) → m.point ≡ LostDue stage b before more → Kept
  unfolding left
  at_loss (RollingBack ending) b before more at =
      rolls_on t h s order is may ending (ap stage_at at) (due m.session (LostDue (RollingBack EndsWith) b before more)) refl refl refl refl
      (lost_cause (RollingBack ending) b before more at m.session)
      (fits_rolling m.session.gate ending EndsWith (lost_fits (RollingBack ending) b before more at))
      refl refl refl tt (to_left (LostDue (RollingBack ending) b before more) at)
  at_loss (Opening work) b before more at = lost_begins (Opening work) b before more at refl
  at_loss (Reading work ticket) b before more at = lost_begins (Reading work ticket) b before more at refl
  at_loss (Running work) b before more at = lost_begins (Running work) b before more at refl
  at_loss (Locking work table) b before more at = lost_begins (Locking work table) b before more at refl
  at_loss (Inserting work posted) b before more at = lost_begins (Inserting work posted) b before more at refl
  at_loss Committing b before more at = lost_begins Committing b before more at refl
  at_loss Closing b before more at = lost_begins Closing b before more at refl

  -- an ending that is due at the gate stays so
  at_ending : (n : Point) (point : Point) → m.point ≡ point → stage_at n ≡ None → stage_at point ≡ None
      → (FitsPoint (stage_at point) point m.session.gate → FitsPoint (stage_at n) n m.session.gate) → IsClassedAt t.world.tables n
      → ((told : Option Answer) → standing_by m.session.gate n (stage_at n) told ≡ Nowhere)
      → ((told : Option Answer) → standing_by m.session.gate point (stage_at point) told ≡ Nowhere)
      → wants_of n (stage_at n) ≡ None → wants_of point (stage_at point) ≡ None
      → reply_in n ≡ None → IsUnderWay n (Some (told_now t s order)) → OrderAt m.session n (told_now t s order)
      → left m.session point ≡ due m.session n → Kept
  at_ending n point at calm before fits classed here there wants wanted reply under order_at to =
      let was : (b : ℕ) → stand m (t.world.mail s.number) b ≡ Nowhere = λ b. ap (λ (p : Point). standing_by m.session.gate p (stage_at p) (told_by m (t.world.mail s.number) b)) at ∙ there (told_by m (t.world.mail s.number) b) in
      goes_off t h s order is may (due m.session n) calm (ap stage_at at ∙ before)
      (fits (subst (λ (p : Point). FitsPoint (stage_at p) p m.session.gate) at (h.inside s.number))) classed
      (λ b in_it. here (told_by m (t.world.mail s.number) b) ∙ sym (was b)) was refl
      (wants ∙ sym (ap (λ (p : Point). wants_of p (stage_at p)) at ∙ wanted)) reply under order_at (to_left point at ∙ to)

  fits_finish : (phase : GatePhase) (ending other : MachineEnding) → FitsPoint None (FinishDue ending) phase → FitsPoint None (FinishDue other) phase
  fits_finish (phases.Live changed written) ending other f = refl
  fits_finish phase ending other f = absurd (cc)

  leave_at : (point : Point) → m.point ≡ point → Kept
  unfolding left
  leave_at (LookDue stage) at = at_stage (LookDue stage) at stage refl refl
  leave_at (PostDue stage b) at = at_stage (PostDue stage b) at stage refl refl
  leave_at (SplitDue stage best own among more) at = at_stage (SplitDue stage best own among more) at stage refl refl
  leave_at (LostDue stage b before more) at = at_loss stage b before more at
  leave_at (Waiting stage b) at = absurd (let z : false ≡ true = sym (ap may_leave at) ∙ may in cc)
  leave_at (LeaveCommitDue ending) at = absurd (let z : false ≡ true = sym (ap may_leave at) ∙ may in cc)
  leave_at (UnwindDue ending) at = at_ending (UnwindDue EndsWith) (UnwindDue ending) at refl refl (λ f. f) refl (λ x. refl) (λ x. refl) refl refl refl refl tt refl
  leave_at (FinishDue ending) at = at_ending (FinishDue EndsWith) (FinishDue ending) at refl refl (fits_finish m.session.gate ending EndsWith) refl (λ x. refl) (λ x. refl) refl refl refl refl tt refl
  leave_at Resting at = plainly (to_left Resting at)
  leave_at (EnterDue work) at = plainly (to_left (EnterDue work) at)
  leave_at (ChooseDue work) at = plainly (to_left (ChooseDue work) at)
  leave_at ShowDue at = plainly (to_left ShowDue at)
  leave_at (LeaveSnapshotDue work) at = plainly (to_left (LeaveSnapshotDue work) at)
  leave_at EnterCommitDue at = plainly (to_left EnterCommitDue at)
  leave_at (ReplyDue outcome) at = plainly (to_left (ReplyDue outcome) at)
  leave_at EndDue at = plainly (to_left EndDue at)

rest_of : (point : Point) (status : Status) (phase : GatePhase) (body : OrderBody) → fits_at_rest (is_resting point) status phase body ≡ true → (point ≡ Resting) × (fits status phase body ≡ true)
rest_of Resting status phase body e = (refl, e)
rest_of point status phase body e = absurd (let z : false ≡ true = e in cc)

pub order_kept : (t : Tracked) (s : SessionId) (order : Order) → Invariant t → MayHappen t.world (Of s (Ordered order)) → Invariant (tracked_after t (Of s (Ordered order)))
order_kept t s order h may = by order.body refl may.0.0
  where
    by : (body : OrderBody) → order.body ≡ body → may_order (t.world.machine s.number).session (t.world.machine s.number).point order.body ≡ true → Invariant (tracked_after t (Of s (Ordered order)))
    by body is e = by_body body is (subst (λ x. may_order (t.world.machine s.number).session (t.world.machine s.number).point x ≡ true) is e)
      where
        by_body : (body : OrderBody) → order.body ≡ body → may_order (t.world.machine s.number).session (t.world.machine s.number).point body ≡ true → Invariant (tracked_after t (Of s (Ordered order)))
        by_body orders.Leave is e = leave_at t h s order is e (t.world.machine s.number).point refl
        by_body (orders.Statement checked) is e = statement_kept t h s order (rest_of _ _ _ (orders.Statement checked) e).0 checked is may.1
        by_body orders.Begin is e = let r = rest_of _ _ _ orders.Begin e in begin_kept t h s order r.0 r.1 is
        by_body orders.Commit is e = commit_kept t h s order (rest_of _ _ _ orders.Commit e).0 is
        by_body orders.Rollback is e = rollback_kept t h s order (rest_of _ _ _ orders.Rollback e).0 is
        by_body orders.Settle is e = settle_kept t h s order (rest_of _ _ _ orders.Settle e).0 is
        by_body orders.ShowNodes is e = show_kept t h s order (rest_of _ _ _ orders.ShowNodes e).0 is
        by_body (orders.Recover b) is e = absurd (let z : false ≡ true = e in cc)
        by_body (orders.Refuse code name) is e = refuse_kept t h s order (rest_of _ _ _ (orders.Refuse code name) e).0 code name is
