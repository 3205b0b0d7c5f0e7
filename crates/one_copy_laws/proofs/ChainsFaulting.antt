-- A loss that a session sees.
use Rattle.std.proofs.Common.{◌≡◌, ℕ, Bool, true, false, List, refl, sym, ap, ◌∙◌, subst, inl, inr}
use Rattle.std.specs.Prelude.{Option, Some, None, is_some}
use Rattle.pool_base.specs.Sets.{has}
use Rattle.pool_base.specs.declared.session_id.SessionId.{SessionId}
use Rattle.backend_trait.specs.declared.request.Request.{Request}
use Rattle.backend_trait.specs.declared.answer.Answer.{Answer}
use Rattle.backend_trait.specs.Rows.{with_at}
use Rattle.session_machine.specs.declared.action.Action.TheVariants as actions
use Rattle.session_machine.specs.declared.machine.Machine.{Machine}
use Rattle.session_machine.specs.declared.machine.Session.{Session}
use Rattle.session_machine.specs.declared.machine.Stage.{Stage}
use Rattle.session_machine.specs.declared.machine.Point.{Point}
use Rattle.session_machine.specs.declared.machine.Point.TheVariants.{Waiting, LostDue, SplitDue}
use Rattle.session_machine.specs.Rules.{after_at, action_at, due}
use Rattle.one_copy_model.specs.declared.deed.Entry.{Entry}
use Rattle.one_copy_model.specs.declared.event.Event.TheVariants.{Of}
use Rattle.one_copy_model.specs.World.{after, MayHappen}
use Rattle.one_copy_model.specs.Deaths.{fallen, stage_at}
use Rattle.one_copy_model.specs.Tracking.{Tracked, tracked_after}
use Rattle.one_copy_model.specs.Invariant.{Invariant}
use Rattle.one_copy_model.specs.Own.{told_by, Own}
use Rattle.one_copy_model.proofs.Counts.{still}
use Rattle.one_copy_model.proofs.Turning.{facts_of, live_there}
use Rattle.one_copy_model.proofs.Landing.{lands, places_none}
use Rattle.one_copy_model.proofs.Quiet.{real, quiet_holds}
use Rattle.session_machine.specs.declared.action.Cause.{Cause}
use Rattle.pool_base.specs.declared.backend_id.BackendId.{BackendId}
use Rattle.one_copy_model.specs.Statement.{HasCause}
use Rattle.one_copy_model.specs.Chains.{IsInOrder, asked_in}
use Rattle.one_copy_model.specs.Invariant.{inserted_in}
use Rattle.one_copy_model.proofs.Quiet.{stands_silent}
use Rattle.backend_trait.specs.Store.{Pending}
use Rattle.one_copy_model.specs.Invariant.{IsInLine}
use Rattle.pool_base.specs.Outside.{Rose}
use Rattle.session_machine.specs.declared.action.SessionEvent.TheVariants.{Faulted}
use Rattle.session_machine.specs.declared.action.Cause.TheVariants.{Fault}
use Rattle.session_machine.specs.Rules.{faulted}
use Rattle.one_copy_model.proofs.Beginning.{one_unasked}
use Rattle.one_copy_laws.proofs.ChainsChaining.{chain_own, stand_same, inserts_same}

pub waits_for : (session : Session) (point : Point) (b : BackendId) → action_at session point ≡ actions.WaitFor b → (stage : Stage) × (point ≡ Waiting stage b)
waits_for session (Waiting stage c) b e = (stage, ap (Waiting stage) (let z : actions.WaitFor c ≡ actions.WaitFor b = e in let same : c ≡ b = cc in same))
waits_for session point b e = absurd (cc)

-- what waits stands at the backend that is waited for
pub one_line : (m : Machine) (stage : Stage) (b : BackendId) (c : ℕ) (request : Request) → m.point ≡ Waiting stage b → IsInLine m c request → c ≡ b.number
one_line m stage b c request at line =
    let e : Waiting line.stage line.at ≡ Waiting stage b = sym line.waits ∙ at in
    let same : line.at ≡ b = cc in
    sym line.number ∙ ap (λ (x : BackendId). x.number) same

pub cause_of : (n : Machine) (b c : BackendId) (own cause : Cause) → HasCause n b own → actions.Detach b own ≡ actions.Detach c cause → HasCause n c cause
cause_of n b c own cause has e =
    subst (λ x. HasCause n x cause) (let same : b ≡ c = cc in same)
    (subst (HasCause n b) (let same : own ≡ cause = cc in same) has)

lost_not : (x : Bool) → x ≡ true → x ≡ false → ⊥
lost_not x e f = let z : true ≡ false = sym e ∙ f in cc

pending_is : (x : Option Pending) → is_some x ≡ true → (p : Pending) × (x ≡ Some p)
pending_is (Some p) e = (p, refl)
pending_is None e = absurd (cc)

module _ (t : Tracked) (h : Invariant t) (s : SessionId) (b : BackendId) (before more : ℕ) (stage : Stage)
    (at : (t.world.machine s.number).point ≡ Waiting stage b) (lost : (t.world.store b.number).lost ≡ true)
    (waits : is_some ((t.world.store b.number).pending s.number) ≡ true) (rose : Rose before more) where
  abbrev m : Machine
  m = t.world.machine s.number

  abbrev n : Machine
  n = due m.session (LostDue stage b before more)

  abbrev attached : ℕ
  attached = t.world.gate.attached.bits

  abbrev mail : ℕ → Option Answer
  mail = t.world.mail s.number

  old : Own t.world.tables attached t.history t.world.store m mail (t.orders s.number) (t.done s.number) (live_there t s.number) s.number
  old = (facts_of t h).own s.number

  lost_order : IsInOrder attached n stage
  lost_order =
      let o : IsInOrder attached m stage = old.in_order stage (ap stage_at at) in
      record {
        rising = o.rising;
        above = λ c e. absurd (let z : None ≡ Some c = e in cc);
        below = λ c d up here under_it told. o.below c d up here under_it (elim told [ inl e ↦ absurd (let z : None ≡ Some d = e in cc) | inr e ↦ inr e ]);
        one = λ reads. one_unasked (asked_in m.point) m.session.heard (o.one reads);
      }

  none_at_b : mail b.number ≡ None
  none_at_b = let p = pending_is ((t.world.store b.number).pending s.number) waits in old.untold b.number p.0 p.1

  lost_own : Own t.world.tables attached t.history t.world.store n mail (t.orders s.number) (t.done s.number) (live_there t s.number) s.number
  lost_own =
      chain_own t.world.tables attached t.history t.world.store m mail mail (t.orders s.number) (t.done s.number) (live_there t s.number) s.number (real s) old n stage (ap stage_at at) refl refl refl (λ c. refl)
      (λ c p sound e. absurd (lost_not (t.world.store b.number).lost lost (ap (λ (k : ℕ). (t.world.store k).lost) (sym (one_line m stage b c p.request at (old.asked c p sound e))) ∙ sound)))
      old.untold
      (λ c answer e. absurd (let line = old.answer c answer e in let z : None ≡ Some answer = sym none_at_b ∙ ap mail (sym (one_line m stage b c line.0 at line.1)) ∙ e in cc))
      lost_order
      (λ x best own among onward e. absurd (let z : LostDue stage b before more ≡ SplitDue x best own among onward = e in cc))
      (λ c cause e. cause_of n b c (Fault before more) cause (record { stage = stage; due = refl; rose = rose }) e)
      (λ answer kept any. absurd kept)

  pub lost_holds : Invariant (record { world = record { tables = t.world.tables; gate = t.world.gate; machine = with_at t.world.machine s.number n; store = t.world.store; mail = t.world.mail }; history = t.history; orders = with_at t.orders s.number (t.orders s.number); done = with_at t.done s.number (t.done s.number) })
  lost_holds =
      quiet_holds t h s n t.world.gate (t.orders s.number) (t.done s.number) refl
      (still t.world.gate t.world.machine m.session.gate m.session.gate refl (facts_of t h).counts)
      (stands_silent t.world.tables attached t.history m n mail mail
      (λ c here. stand_same t.world.tables attached t.history t.world.store m mail mail (t.orders s.number) (t.done s.number) (live_there t s.number) s.number (real s) old n stage (ap stage_at at) refl refl refl (λ c. refl) c)
      (λ c here. ap (λ x. inserted_in x (told_by m mail c)) (ap stage_at at)) (inserts_same m n stage (ap stage_at at) refl) (λ e. e))
      lost_own

pub fault_kept : (t : Tracked) (s : SessionId) (b : BackendId) (before more : ℕ) → Invariant t → MayHappen t.world (Of s (Faulted b before more)) → Invariant (tracked_after t (Of s (Faulted b before more)))
unfolding after_at
fault_kept t s b before more h may =
    let m : Machine = t.world.machine s.number in
    let w = waits_for m.session m.point b may.0.0 in
    lands t (Of s (Faulted b before more)) t.history
    (ap (λ (x : List Entry). fallen (after t.world (Of s (Faulted b before more))) x 65)
    (places_none (live_there t s.number) t.world s.number m (Faulted b before more) t.history refl refl refl))
    (subst (λ (x : Machine). Invariant (record { world = record { tables = t.world.tables; gate = t.world.gate; machine = with_at t.world.machine s.number x; store = t.world.store; mail = t.world.mail }; history = t.history; orders = with_at t.orders s.number (t.orders s.number); done = with_at t.done s.number (t.done s.number) }))
    (sym (ap (faulted m.session before more) w.1))
    (lost_holds t h s b before more w.0 w.1 may.1.0 may.1.1 may.0.1))
