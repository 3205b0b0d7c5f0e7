-- A Leave, where a session has an open transaction or a chain under way, and where it has not.
use Rattle.std.proofs.Common.{◌≡◌, ◌≢◌, ℕ, Bool, true, false, [], refl, sym, ap, ◌∙◌}
use Rattle.std.specs.Prelude.{Option, Some, None}
use Rattle.pool_base.specs.declared.session_id.SessionId.{SessionId}
use Rattle.backend_trait.specs.declared.answer.Answer.{Answer}
use Rattle.session_machine.specs.declared.action.SessionEvent.TheVariants.{Ordered}
use Rattle.session_machine.specs.declared.work.Work.{Work}
use Rattle.session_orders.specs.declared.order.Order.{Order}
use Rattle.session_orders.specs.declared.order.OrderBody.TheVariants as orders
use Rattle.session_machine.specs.declared.machine.GatePhase.{GatePhase}
use Rattle.session_machine.specs.declared.machine.GatePhase.TheVariants as phases
use Rattle.session_machine.specs.declared.machine.Machine.{Machine}
use Rattle.session_machine.specs.declared.machine.Stage.{Stage}
use Rattle.session_machine.specs.declared.machine.Point.{Point}
use Rattle.session_machine.specs.Rules.{ordered}
use Rattle.one_copy_model.specs.declared.event.Event.TheVariants.{Of}
use Rattle.one_copy_model.specs.Places.{at_order, rolls_back}
use Rattle.one_copy_model.specs.Deaths.{stage_at}
use Rattle.one_copy_model.specs.Tracking.{Told, Tracked, tracked_after, in_commit}
use Rattle.one_copy_model.specs.Orders.{OrderAt, reply_in, is_of_commit, IsClassedAt}
use Rattle.one_copy_model.specs.Standing.{Leaving, Ending}
use Rattle.one_copy_model.specs.Invariant.{Invariant, FitsPoint, wants_of, IsUnderWay}
use Rattle.one_copy_model.specs.Own.{told_by, stand, IsIn}
use Rattle.one_copy_model.proofs.Calm.{free_of, is_waiting}
use Rattle.one_copy_model.proofs.Turning.{facts_of, live_there}
use Rattle.one_copy_model.proofs.Quiet.{real}
use Rattle.one_copy_model.proofs.Beginning.{none_told}
use Rattle.session_machine.specs.declared.machine.Point.TheVariants.{Resting, LookDue, ReplyDue, EnterDue, ShowDue, EnterCommitDue}
use Rattle.session_machine.specs.declared.machine.Stage.TheVariants.{Opening, Reading, Running, Locking, Inserting, Committing, RollingBack, Closing}
use Rattle.one_copy_model.specs.Standing.{Nowhere, Ahead, standing_by, standing_in}
use Rattle.one_copy_model.specs.Invariant.{inserted_in}
use Rattle.one_copy_model.proofs.Livings.{not_live}
use Rattle.one_copy_laws.proofs.OrdersOrdering.{if_live, its, told_now, lands_order}
use Rattle.one_copy_laws.proofs.OrdersLeading.{leads_quietly, rolls}
use Rattle.session_machine.specs.Allowed.{fits}
use Rattle.one_copy_laws.proofs.OrdersResting.{untold_inserts}
use Rattle.session_machine.specs.declared.machine.Point.TheVariants.{ChooseDue}
use Rattle.pool_base.specs.declared.backend_id.BackendId.{BackendId}
use Rattle.session_machine.specs.declared.action.Cause.{Cause}
use Rattle.session_machine.specs.declared.action.Action.TheVariants as actions
use Rattle.session_machine.specs.declared.machine.Ending.TheVariants.{Leaves as EndsWith}
use Rattle.session_machine.specs.declared.machine.Point.TheVariants.{PostDue, Waiting, LostDue, SplitDue, LeaveSnapshotDue, UnwindDue, LeaveCommitDue, FinishDue, EndDue}
use Rattle.session_machine.specs.Rules.{next_action}
use Rattle.session_machine.specs.Allowed.{may_leave, may_stop}
use Rattle.one_copy_model.specs.Statement.{HasCause}
use Rattle.one_copy_model.specs.Chains.{asked_in}
use Rattle.one_copy_model.proofs.InvariantLaws.{point_leaves}
use Rattle.one_copy_model.proofs.Beginning.{fresh_order, is_split}
use Rattle.one_copy_laws.proofs.OrdersLeading.{leads_to_end_with}

-- where a Leave may come nothing has to be completed: no commit is entered, and no serial insert is posted
may_stop_out : (stage : Stage) (phase : GatePhase) → may_stop stage ≡ true → FitsPoint (Some stage) (LookDue stage) phase → in_commit phase ≡ false
may_stop_out stage phases.Out e f = refl
may_stop_out stage phases.InSnapshot e f = refl
may_stop_out stage (phases.Live changed written) e f = refl
may_stop_out (Opening work) phases.InCommit e f = absurd (cc)
may_stop_out (Reading work ticket) phases.InCommit e f = absurd (cc)
may_stop_out (Running work) phases.InCommit e f = absurd (cc)
may_stop_out (Locking work table) phases.InCommit e f = absurd (cc)
may_stop_out (Inserting work posted) phases.InCommit e f = absurd (cc)
may_stop_out Committing phases.InCommit e f = absurd (cc)
may_stop_out Closing phases.InCommit e f = absurd (cc)
may_stop_out (RollingBack ending) phases.InCommit e f = absurd (cc)

pub may_leave_out : (point : Point) (phase : GatePhase) → may_leave point ≡ true → FitsPoint (stage_at point) point phase → in_commit phase ≡ false
may_leave_out (LookDue stage) phase e f = may_stop_out stage phase e f
may_leave_out (PostDue stage b) phase e f = may_stop_out stage phase e f
may_leave_out (LostDue stage b before more) phase e f = may_stop_out stage phase e f
may_leave_out (SplitDue stage best own among more) phase e f = may_stop_out stage phase e f
may_leave_out point phases.Out e f = refl
may_leave_out point phases.InSnapshot e f = refl
may_leave_out point (phases.Live changed written) e f = refl
may_leave_out Resting phases.InCommit e f = absurd (cc)
may_leave_out (EnterDue work) phases.InCommit e f = absurd (cc)
may_leave_out (Waiting stage b) phases.InCommit e f = absurd (cc)
may_leave_out (ChooseDue work) phases.InCommit e f = absurd (cc)
may_leave_out ShowDue phases.InCommit e f = absurd (cc)
may_leave_out (LeaveSnapshotDue work) phases.InCommit e f = absurd (cc)
may_leave_out (UnwindDue ending) phases.InCommit e f = absurd (cc)
may_leave_out EnterCommitDue phases.InCommit e f = absurd (cc)
may_leave_out (LeaveCommitDue ending) phases.InCommit e f = absurd (cc)
may_leave_out (FinishDue ending) phases.InCommit e f = absurd (cc)
may_leave_out (ReplyDue outcome) phases.InCommit e f = absurd (cc)
may_leave_out EndDue phases.InCommit e f = absurd (cc)

may_stop_idle : (stage : Stage) (told : Option Answer) (work : Work) → may_stop stage ≡ true → inserted_in (Some stage) told ≡ Some work → ⊥
may_stop_idle (Inserting other true) told work e f = let n : false ≡ true = e in cc
may_stop_idle stage told work e f = let n : None ≡ Some work = f in cc

pub may_leave_idle : (point : Point) (told : Option Answer) (work : Work) → may_leave point ≡ true → inserted_in (stage_at point) told ≡ Some work → ⊥
may_leave_idle (LookDue stage) told work e f = may_stop_idle stage told work e f
may_leave_idle (PostDue stage b) told work e f = may_stop_idle stage told work e f
may_leave_idle (LostDue stage b before more) told work e f = may_stop_idle stage told work e f
may_leave_idle (SplitDue stage best own among more) told work e f = may_stop_idle stage told work e f
may_leave_idle (Waiting stage b) told work e f = let n : false ≡ true = e in cc
may_leave_idle point told work e f = let n : None ≡ Some work = f in cc

pub may_leave_free : (point : Point) → may_leave point ≡ true → is_waiting point ≡ false
may_leave_free (Waiting stage b) e = absurd (let n : false ≡ true = e in cc)
may_leave_free point e = refl

commit_off : (phase : GatePhase) → in_commit phase ≡ false → in_commit phase ≡ true → ⊥
commit_off phase e f = let n : false ≡ true = sym e ∙ f in cc

module _ (t : Tracked) (h : Invariant t) (s : SessionId) (order : Order) (is : order.body ≡ orders.Leave) (may : may_leave (its t s order).point ≡ true) where
  abbrev m : Machine
  m = t.world.machine s.number

  abbrev told : Told
  told = told_now t s order

  abbrev attached : ℕ
  attached = t.world.gate.attached.bits

  abbrev mail : ℕ → Option Answer
  mail = t.world.mail s.number

  abbrev live : Bool
  live = live_there t s.number

  abbrev Kept : Type 0
  Kept = Invariant (tracked_after t (Of s (Ordered order)))

  pub free : is_waiting m.point ≡ false
  free = may_leave_free m.point may

  pub outside : in_commit m.session.gate ≡ false
  outside = may_leave_out m.point m.session.gate may (h.inside s.number)

  stays_here : (b : ℕ) → IsIn attached b → stand m mail b ≢ Leaving
  stays_here b at e = commit_off m.session.gate outside (point_leaves m.point m.session.gate (told_by m mail b) (h.inside s.number) e)

  -- a rollback begins, behind a loss that was seen also
  pub rolls_from : (n : Machine) → n.session.heard ≡ [] → n.session.gate ≡ m.session.gate → is_split n.point ≡ false
      → stage_at n.point ≡ Some (RollingBack EndsWith) → asked_in n.point ≡ None
      → ((b : BackendId) (cause : Cause) → next_action n ≡ actions.Detach b cause → HasCause n b cause)
      → FitsPoint (stage_at n.point) n.point n.session.gate → IsClassedAt t.world.tables n.point
      → reply_in n.point ≡ None → IsUnderWay n.point (Some told) → OrderAt n.session n.point told
      → ordered m.session m.point order.moment order.body ≡ n
      → Kept
  rolls_from n empty gate unsplit at unasked causes fits classed reply under order_at to =
      let untold : (b : ℕ) → told_by n mail b ≡ None = none_told t.world.tables attached t.history t.history t.world.store m mail (t.orders s.number) (t.done s.number) live s.number (real s) (free_of m.point free) ((facts_of t h).own s.number) n empty in
      let ends_at : (b : ℕ) → IsIn attached b → stand n mail b ≡ Ending = λ b here. ap (λ x. standing_by n.session.gate n.point x (told_by n mail b)) at ∙ ap (standing_in (RollingBack EndsWith)) (untold b) in
      lands_order t s order n (if_live live s.number rolls_back t.history) to (ap (λ b. if_live live s.number (at_order m.session order.moment b) t.history) is)
      (leads_to_end_with t h s order free n (if_live live s.number rolls_back t.history) (RollingBack EndsWith) unsplit causes at (rolls t h s order free live refl)
      (record {
        stays = stays_here;
        lasts = λ b here e. let z : Ending ≡ Leaving = sym (ends_at b here) ∙ e in cc;
        outside = ap in_commit gate ∙ outside;
        idle = λ b work here e. may_leave_idle m.point (told_by m mail b) work may e;
        idles = λ b work here e. let z : None ≡ Some work = sym (untold_inserts (stage_at n.point) (told_by n mail b) (untold b)) ∙ e in cc;
      })
      fits classed gate (fresh_order attached n (RollingBack EndsWith) empty unasked) untold ends_at
      (λ b l here e. absurd (let z : Some (RollingBack EndsWith) ≡ Some Closing = sym at ∙ e in cc))
      (λ outcome e. absurd (let z : None ≡ Some outcome = sym reply ∙ e in cc)) under order_at
      (λ b here e. absurd (let z : false ≡ true = sym (ap is_of_commit at) ∙ e in cc)))

  -- where the session is out there is nothing to roll back
  pub goes_off : (n : Machine) → stage_at n.point ≡ None → stage_at m.point ≡ None
      → FitsPoint (stage_at n.point) n.point n.session.gate → IsClassedAt t.world.tables n.point
      → ((b : ℕ) → IsIn attached b → stand n mail b ≡ stand m mail b)
      → ((b : ℕ) → stand m mail b ≡ Nowhere)
      → n.session.gate ≡ m.session.gate
      → wants_of n.point (stage_at n.point) ≡ wants_of m.point (stage_at m.point)
      → reply_in n.point ≡ None → IsUnderWay n.point (Some told) → OrderAt n.session n.point told
      → ordered m.session m.point order.moment order.body ≡ n
      → Kept
  goes_off n calm before fits classed same nowhere gate wants reply under order_at to =
      let dead : live ≡ false = not_live t h s.number (λ b asked here e. (let z : Nowhere ≡ Ahead asked = sym (nowhere b) ∙ e in cc)) in
      lands_order t s order n t.history to (ap (λ x. if_live x s.number (at_order m.session order.moment order.body) t.history) dead)
      (leads_quietly t h s order free n calm before fits classed same gate wants
      (λ outcome e. absurd (let z : None ≡ Some outcome = sym reply ∙ e in cc)) under order_at)
