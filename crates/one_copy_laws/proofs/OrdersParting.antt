-- A Leave by the point at which it comes; a rollback under way goes on without a reply.
use Rattle.std.proofs.Common.{◌≡◌, ◌≢◌, ℕ, ◌≤◌, Bool, true, false, List, length, refl, sym, ap, ◌∙◌, subst, arith, inl, inr}
use Rattle.std.specs.Prelude.{Option, Some, None, if◌then◌else◌}
use Rattle.pool_base.specs.declared.code.Code.{Code}
use Rattle.pool_base.specs.declared.session_id.SessionId.{SessionId}
use Rattle.schema.specs.declared.catalogue.TableDef.{TableDef}
use Rattle.backend_trait.specs.declared.request.Request.{Request}
use Rattle.backend_trait.specs.declared.answer.Answer.{Answer}
use Rattle.session_machine.specs.declared.action.SessionEvent.TheVariants.{Ordered}
use Rattle.session_orders.specs.declared.order.Order.{Order}
use Rattle.session_orders.specs.declared.order.OrderBody.TheVariants as orders
use Rattle.session_machine.specs.declared.machine.GatePhase.{GatePhase}
use Rattle.session_machine.specs.declared.machine.GatePhase.TheVariants as phases
use Rattle.session_machine.specs.declared.machine.Machine.{Machine}
use Rattle.session_machine.specs.declared.machine.Session.{Session}
use Rattle.session_machine.specs.declared.machine.Stage.{Stage}
use Rattle.session_machine.specs.declared.machine.Point.{Point}
use Rattle.session_machine.specs.Rules.{ordered}
use Rattle.one_copy_model.specs.declared.deed.Entry.{Entry}
use Rattle.one_copy_model.specs.declared.event.Event.TheVariants.{Of}
use Rattle.one_copy_model.specs.Places.{at_order}
use Rattle.one_copy_model.specs.Deaths.{stage_at}
use Rattle.one_copy_model.specs.Tracking.{Told, Tracked, tracked_after, in_commit}
use Rattle.one_copy_model.specs.Orders.{OrderAt, reply_in, is_of_commit, IsClassedAt}
use Rattle.one_copy_model.specs.Chains.{IsInOrder}
use Rattle.one_copy_model.specs.Tracking.{single}
use Rattle.one_copy_model.specs.Standing.{Leaving, Ending, Stands, leaving_of}
use Rattle.one_copy_model.specs.Invariant.{Invariant, FitsPoint, where_live, wants_of, IsUnderWay}
use Rattle.one_copy_model.specs.Own.{told_by, stand, IsIn, Own}
use Rattle.one_copy_model.proofs.Counts.{still}
use Rattle.one_copy_model.proofs.Calm.{free_of}
use Rattle.one_copy_model.proofs.Turning.{facts_of, live_there}
use Rattle.one_copy_model.proofs.Quiet.{real, quiet_holds}
use Rattle.session_machine.specs.Rules.{due, begun}
use Rattle.session_machine.specs.declared.machine.Point.TheVariants.{Resting, LookDue, ReplyDue, EnterDue, ShowDue, EnterCommitDue}
use Rattle.session_machine.specs.declared.machine.Stage.TheVariants.{Opening, Reading, Running, Locking, Inserting, Committing, RollingBack, Closing}
use Rattle.session_machine.specs.declared.machine.Ending.{Ending as MachineEnding}
use Rattle.one_copy_model.specs.Standing.{Nowhere, Ahead, standing_by, standing_open}
use Rattle.one_copy_model.specs.Invariant.{inserted_in, inserting_in}
use Rattle.one_copy_model.proofs.Livings.{not_live}
use Rattle.one_copy_laws.proofs.OrdersOrdering.{only, if_live, its, told_now, lands_order}
use Rattle.session_machine.specs.declared.machine.Point.TheVariants.{ChooseDue}
use Rattle.pool_base.specs.declared.backend_id.BackendId.{BackendId}
use Rattle.session_machine.specs.declared.action.Cause.{Cause}
use Rattle.session_machine.specs.declared.action.Action.TheVariants as actions
use Rattle.session_machine.specs.declared.machine.Ending.TheVariants.{Leaves as EndsWith}
use Rattle.session_machine.specs.declared.machine.Point.TheVariants.{PostDue, Waiting, LostDue, SplitDue, LeaveSnapshotDue, UnwindDue, LeaveCommitDue, FinishDue, EndDue}
use Rattle.session_machine.specs.Rules.{next_action, leaving}
use Rattle.session_machine.specs.Allowed.{may_leave}
use Rattle.one_copy_model.specs.Statement.{HasCause}
use Rattle.one_copy_model.specs.Chains.{asked_in, goes_up}
use Rattle.one_copy_model.proofs.Beginning.{is_split}
use Rattle.one_copy_model.specs.Standing.{Fallen, told_in}
use Rattle.pool_base.specs.declared.gate_call.GateCall.TheVariants as calls
use Rattle.std.specs.Prelude.{is_some}
use Rattle.backend_trait.specs.Store.{is_refusal}
use Rattle.one_copy_model.specs.Deaths.{heard_from, mail_or}
use Rattle.one_copy_model.specs.Chains.{IsHeard, IsRising}
use Rattle.one_copy_model.specs.Invariant.{HasReason}
use Rattle.one_copy_model.proofs.Quiet.{stands_silent}
use Rattle.one_copy_laws.proofs.OrdersLeaving.{rolls_from, goes_off, free as free_at, outside}

pub no_stage_out : (stage : Stage) → FitsPoint (Some stage) (LookDue stage) phases.Out → ⊥
no_stage_out (Opening work) e = cc
no_stage_out (Reading work ticket) e = cc
no_stage_out (Running work) e = cc
no_stage_out (Locking work table) e = cc
no_stage_out (Inserting work posted) e = cc
no_stage_out Committing e = cc
no_stage_out Closing e = cc
no_stage_out (RollingBack ending) e = cc

abbrev IsOutAt : Point → Type 0
IsOutAt point = (stage_at point ≡ None) × (wants_of point (stage_at point) ≡ None) × ((told : Option Answer) → standing_by phases.Out point (stage_at point) told ≡ Nowhere)

out_at : (point : Point) → FitsPoint (stage_at point) point phases.Out → IsOutAt point
out_at (LookDue stage) f = absurd (no_stage_out stage f)
out_at (PostDue stage b) f = absurd (no_stage_out stage f)
out_at (Waiting stage b) f = absurd (no_stage_out stage f)
out_at (LostDue stage b before more) f = absurd (no_stage_out stage f)
out_at (SplitDue stage best own among more) f = absurd (no_stage_out stage f)
out_at Resting f = (refl, refl, λ told. refl)
out_at (EnterDue work) f = (refl, refl, λ told. refl)
out_at ShowDue f = (refl, refl, λ told. refl)
out_at (ReplyDue outcome) f = (refl, refl, λ told. refl)
out_at EndDue f = (refl, refl, λ told. refl)
out_at (ChooseDue work) f = absurd (cc)
out_at (LeaveSnapshotDue work) f = absurd (cc)
out_at (UnwindDue ending) f = absurd (cc)
out_at EnterCommitDue f = absurd (cc)
out_at (LeaveCommitDue ending) f = absurd (cc)
out_at (FinishDue ending) f = absurd (cc)

pub fits_rolling : (phase : GatePhase) (ending other : MachineEnding) → FitsPoint (Some (RollingBack ending)) (LookDue (RollingBack ending)) phase → FitsPoint (Some (RollingBack other)) (LookDue (RollingBack other)) phase
fits_rolling phases.Out ending other f = absurd (cc)
fits_rolling phases.InSnapshot ending other f = refl
fits_rolling (phases.Live changed written) ending other f = refl
fits_rolling phases.InCommit ending other f = absurd (cc)

ending_not_ahead : (told : Option Answer) (asked : List Request) → told_in Ending Nowhere told ≡ Ahead asked → ⊥
ending_not_ahead None asked e = let z : Ending ≡ Ahead asked = e in cc
ending_not_ahead (Some answer) asked e = by (is_refusal answer) e
  where
    by : (b : Bool) → (if b then Fallen else Nowhere) ≡ Ahead asked → ⊥
    by true e = let z : Fallen ≡ Ahead asked = e in cc
    by false e = let z : Nowhere ≡ Ahead asked = e in cc

rolling_up : (stage : Stage) (ending : MachineEnding) → Some (RollingBack ending) ≡ Some stage → goes_up stage ≡ false → ⊥
rolling_up stage ending e f = let same : RollingBack ending ≡ stage = cc in let z : true ≡ false = ap goes_up same ∙ f in cc

rolling_reason : (tables : List TableDef) → (stage : Stage) (s : ℕ) (code : Code) (since : ℕ) (history : List Entry) (ending : MachineEnding) → Some (RollingBack ending) ≡ Some stage → HasReason tables stage s code since history
rolling_reason tables stage s code since history ending e = subst (λ x. HasReason tables x s code since history) (let same : RollingBack ending ≡ stage = cc in same) tt

module _ (t : Tracked) (h : Invariant t) (s : SessionId) (order : Order) (is : order.body ≡ orders.Leave) (may : may_leave (its t s order).point ≡ true) where
  abbrev m : Machine
  m = t.world.machine s.number

  abbrev told : Told
  told = told_now t s order

  abbrev attached : ℕ
  attached = t.world.gate.attached.bits

  abbrev mail : ℕ → Option Answer
  mail = t.world.mail s.number

  abbrev live : Bool
  live = live_there t s.number

  abbrev Kept : Type 0
  Kept = Invariant (tracked_after t (Of s (Ordered order)))

  abbrev Leads : Machine → Type 0
  Leads n = ordered m.session m.point order.moment order.body ≡ n

  -- without a rollback under way
  pub leaves_in : (phase : GatePhase) → m.session.gate ≡ phase → Leads (leaving m.session phase) → Kept
  leaves_in phases.Out g to =
      let o : IsOutAt m.point = out_at m.point (subst (FitsPoint (stage_at m.point) m.point) g (h.inside s.number)) in
      let nowhere : (b : ℕ) → stand m mail b ≡ Nowhere = λ b. ap (λ x. standing_by x m.point (stage_at m.point) (told_by m mail b)) g ∙ o.2 (told_by m mail b) in
      goes_off t h s order is may (due m.session EndDue) refl o.0 (subst (FitsPoint None EndDue) (sym g) refl) tt
      (λ b here. ap standing_open g ∙ sym (nowhere b)) nowhere refl (sym o.1) refl refl tt to
  leaves_in phases.InSnapshot g to =
      rolls_from t h s order is may (begun m.session (RollingBack EndsWith)) refl refl refl refl refl (λ b cause e. absurd (let z : actions.Gate calls.Look ≡ actions.Detach b cause = e in cc))
      (subst (FitsPoint (Some (RollingBack EndsWith)) (LookDue (RollingBack EndsWith))) (sym g) refl) refl refl refl tt to
  leaves_in (phases.Live changed written) g to =
      rolls_from t h s order is may (begun m.session (RollingBack EndsWith)) refl refl refl refl refl (λ b cause e. absurd (let z : actions.Gate calls.Look ≡ actions.Detach b cause = e in cc))
      (subst (FitsPoint (Some (RollingBack EndsWith)) (LookDue (RollingBack EndsWith))) (sym g) refl) refl refl refl tt to
  leaves_in phases.InCommit g to = absurd (let z : false ≡ true = sym (outside t h s order is may) ∙ ap in_commit g in cc)

  -- a rollback under way goes on
  module _ (ending : MachineEnding) (at : stage_at m.point ≡ Some (RollingBack ending)) (n : Machine) (session : n.session ≡ m.session)
      (unsplit : is_split n.point ≡ false) (next : stage_at n.point ≡ Some (RollingBack EndsWith)) (unasked : asked_in n.point ≡ None)
      (causes : (b : BackendId) (cause : Cause) → next_action n ≡ actions.Detach b cause → HasCause n b cause)
      (fits : FitsPoint (stage_at n.point) n.point n.session.gate) (classed : IsClassedAt t.world.tables n.point) (reply : reply_in n.point ≡ None)
      (under : IsUnderWay n.point (Some told)) (order_at : OrderAt n.session n.point told) where
    old : Own t.world.tables attached t.history t.world.store m mail (t.orders s.number) (t.done s.number) live s.number
    old = (facts_of t h).own s.number

    told_same : (b : ℕ) → told_by n mail b ≡ told_by m mail b
    told_same b = ap (λ (x : Session). mail_or (mail b) (heard_from x.heard b)) session

    was : (b : ℕ) → stand m mail b ≡ told_in Ending Nowhere (told_by m mail b)
    was b = ap (λ x. standing_by m.session.gate m.point x (told_by m mail b)) at

    same_stand : (b : ℕ) → stand n mail b ≡ stand m mail b
    same_stand b = ap (λ x. standing_by n.session.gate n.point x (told_by n mail b)) next ∙ ap (told_in Ending Nowhere) (told_same b) ∙ sym (was b)

    rolled_order : (stage : Stage) → stage_at n.point ≡ Some stage → IsInOrder attached n stage
    rolled_order stage e =
        let o : IsInOrder attached m (RollingBack ending) = old.in_order (RollingBack ending) at in
        record {
          rising = subst (λ (x : Session). IsRising x.heard) (sym session) o.rising;
          above = λ b f. absurd (let z : None ≡ Some b = sym unasked ∙ f in cc);
          below = λ b c up here under_it says. elim says [
            | inl f ↦ absurd (let z : None ≡ Some c = sym unasked ∙ f in cc)
            | inr f ↦ subst (λ (x : Session). is_some (heard_from x.heard b) ≡ true) (sym session) (o.below b c refl here under_it (inr (subst (λ (x : Session). is_some (heard_from x.heard c) ≡ true) session f)))
          ];
          one = λ single. absurd (rolling_up stage EndsWith (sym next ∙ e) single);
        }

    rolled_own : Own t.world.tables attached t.history t.world.store n mail (Some told) (t.done s.number) live s.number
    rolled_own = record {
      stranger = λ x. absurd (real s x);
      inside = fits;
      classed = classed;
      asked = λ b p sound e. let line = old.asked b p sound e in absurd (free_of m.point (free_at t h s order is may) line.stage line.at line.waits);
      untold = old.untold;
      answer = λ b answer e. let line = (old.answer b answer e).1 in absurd (free_of m.point (free_at t h s order is may) line.stage line.at line.waits);
      in_order = rolled_order;
      heard = λ b stage answer here e says.
          let o : IsHeard (single t) s.number (RollingBack ending) answer = old.heard b (RollingBack ending) answer here at (sym (told_same b) ∙ says) in
          subst (λ x. IsHeard (single t) s.number x answer) (let same : RollingBack EndsWith ≡ stage = (let z : Some (RollingBack EndsWith) ≡ Some stage = sym next ∙ e in cc) in same)
          (record { form = o.form; posted = refl; result = λ x. tt });
      parting = λ stage best own among more e. absurd (let z : true ≡ false = sym (ap is_split e) ∙ unsplit in cc);
      causes = causes;
      stands = λ b here. subst (λ x. Stands (single t) s.number (leaving_of t.world.tables s.number t.history) x ((t.world.store b).transaction s.number) ((single t).transaction s.number)) (sym (same_stand b)) (old.stands b here);
      crossed = old.crossed;
      unchanged = λ u written e. old.unchanged u written (ap (λ (x : Session). x.gate) (sym session) ∙ e);
      closes = λ b l here e. absurd (let z : Some (RollingBack EndsWith) ≡ Some Closing = sym next ∙ e in cc);
      reasons = λ stage by code e f says. rolling_reason t.world.tables stage s.number code by.entries t.history EndsWith (sym next ∙ e);
      posts = old.posts ∙ ap (λ x. where_live live (wants_of m.point x)) at ∙ sym (ap (λ x. where_live live (wants_of n.point x)) next);
      replies = λ by outcome e f. absurd (let z : None ≡ Some outcome = sym reply ∙ f in cc);
      orders = under;
      order_is = only (λ by. OrderAt n.session n.point by) told order_at;
      since = only (λ by. by.entries ≤ length t.history) told (let z : length t.history ≤ length t.history = omega arith in z);
      commits = λ b by here e f. absurd (let z : false ≡ true = sym (ap is_of_commit next) ∙ f in cc);
      done_first = λ b by e. only (λ by. by.entered ≡ true → IsIn attached b → stand n mail b ≢ Leaving → t.done s.number b ≡ true) told (λ entered. absurd (let x : false ≡ true = entered in cc)) by e;
    }

    pub rolls_on : Leads n → Kept
    rolls_on to =
        let dead : live ≡ false = not_live t h s.number (λ b asked here e. ending_not_ahead (told_by m mail b) asked (sym (was b) ∙ e)) in
        lands_order t s order n t.history to (ap (λ x. if_live x s.number (at_order m.session order.moment order.body) t.history) dead)
        (quiet_holds t h s n t.world.gate (Some told) (t.done s.number) refl
        (still t.world.gate t.world.machine m.session.gate n.session.gate (ap (λ (x : Session). x.gate) session) (facts_of t h).counts)
        (stands_silent t.world.tables attached t.history m n mail mail (λ b here. same_stand b)
        (λ b here. ap (λ x. inserted_in x (told_by m mail b)) at ∙ sym (ap (λ x. inserted_in x (told_by n mail b)) next))
        (λ table i. absurd (let z : None ≡ Some i.work = sym (ap inserting_in next) ∙ i.inserting in cc))
        (λ e. ap (λ (x : Session). in_commit x.gate) (sym session) ∙ e))
        rolled_own)
