-- A table is locked.
use Rattle.std.proofs.Common.{◌≡◌, ℕ, refl, sym, ap, ◌∙◌, subst, inl, inr}
use Rattle.std.specs.Prelude.{[], ◌∷◌, Some, is_some}
use Rattle.std.specs.FinMap as fin
use Rattle.pool_base.specs.declared.session_id.SessionId.{SessionId}
use Rattle.pool_base.specs.declared.backend_id.BackendId.{BackendId}
use Rattle.backend_trait.specs.Typed.{AreAllStored}
use Rattle.backend_trait.specs.declared.answer.Answer.TheVariants as answers
use Rattle.backend_trait.specs.declared.request.Request.TheVariants as requests
use Rattle.backend_trait.specs.Effect.{Conflicts, both_wants, has_place}
use Rattle.backend_trait.specs.Store.{Live, Transaction, Absent, Alive, Dead, Pending, Store, held_by, where_live, table_lock, settled}
use Rattle.backend_trait.specs.Acts.{IsFree}
use Rattle.session_machine.specs.declared.machine.Stage.{Stage}
use Rattle.session_machine.specs.declared.machine.Stage.TheVariants.{Locking, Closing}
use Rattle.session_machine.specs.declared.machine.Point.TheVariants.{Waiting}
use Rattle.session_machine.specs.declared.work.Work.{Work}
use Rattle.session_machine.specs.Rules.{request_of}
use Rattle.one_copy_model.specs.declared.event.Event.TheVariants.{Act}
use Rattle.one_copy_model.specs.World.{MayHappen}
use Rattle.one_copy_model.specs.Tracking.{Tracked, single, tracked_after}
use Rattle.one_copy_model.specs.Standing.{Alike}
use Rattle.one_copy_model.specs.Invariant.{Invariant, IsHere, IsInLine}
use Rattle.one_copy_model.specs.Facts.{Shared}
use Rattle.one_copy_model.proofs.Made.{ahead_made}
use Rattle.one_copy_model.proofs.Turning.{facts_of}
use Rattle.one_copy_laws.specs.Acted.{IsAct}
use Rattle.one_copy_laws.proofs.ActsActing.{facts_behind, act_lands, stands_was}
use Rattle.one_copy_laws.proofs.ActsSettling.{settles, IsSettled, settled_acts, calm_numbers, calm_ahead}
use Rattle.one_copy_laws.proofs.ActsBeginning.{acted_is, answers_of, settled_alive}
use Rattle.one_copy_laws.proofs.ActsHolding.{split_both, live_of, one_alive}

abbrev pub locked_by : ℕ → Live → Live
locked_by table u = record u { held = both_wants (table_lock table) u.held }

alike_locked : (table : ℕ) (u : Live) (z : Transaction) → Alike (Alive u) z → Alike (Alive (locked_by table u)) (where_live (locked_by table) z)
alike_locked table u (Alive k) a = (a.0, a.1, ap (both_wants (table_lock table)) a.2)
alike_locked table u Absent a = absurd a
alike_locked table u Dead a = absurd a

lock_stage : (table : ℕ) (stage : Stage) → requests.Lock table ≡ request_of stage → (work : Work) × (stage ≡ Locking work table)
lock_stage table (Locking work other) e = (work, ap (Locking work) (let same : other ≡ table = cc in same))
lock_stage table stage e = absurd (cc)

module _ (t : Tracked) (h : Invariant t) (s : SessionId) (b : BackendId) (p : Pending) (waits : (t.world.store b.number).pending s.number ≡ Some p)
    (work : Work) (table : ℕ) (at : BackendId) (waiting : (t.world.machine s.number).point ≡ Waiting (Locking work table) at) (number : at.number ≡ b.number)
    (is : p.request ≡ requests.Lock table) (u : Live) (live : (t.world.store b.number).transaction s.number ≡ Alive u)
    (free : IsFree (t.world.store b.number) s.number (table_lock table)) where
  abbrev st : Store
  st = t.world.store b.number

  abbrev v : Live
  v = locked_by table u

  w : Shared t.world.tables t.world.gate.attached.bits t.history t.world.store t.world.machine t.world.mail
  w = (facts_of t h).shared

  was : IsHere t.world b.number → Alike (Alive u) ((single t).transaction s.number)
  was in_it = subst (λ z. Alike z ((single t).transaction s.number)) live (stands_was t h s b p waits (Locking work table) at waiting number answers.Locked in_it)

  locked_settled : IsSettled t s b (Locking work table) answers.Locked (Alive v)
  locked_settled = record {
    still = refl;
    form = inl refl;
    posted = refl;
    bases = λ l e. subst (λ (z : Live). AreAllStored st.tables z.base) (one_alive v l e) ((w.shaped b.number).bases s.number u live);
    changes = λ l q row e f. (w.shaped b.number).changes s.number u q row live (ap (λ (z : Live). fin.get z.changes q) (one_alive v l e) ∙ f);
    closes = λ in_it l e. absurd (let z : Locking work table ≡ Closing = e in cc);
    heard = λ in_it. record { form = inl refl; posted = refl; result = λ e. tt };
    stands = λ in_it. subst (Alike (Alive v)) (sym (ahead_made (single t) s.number (requests.Lock table ∷ []) ((single t).transaction s.number))) (alike_locked table u ((single t).transaction s.number) (was in_it));
    reasons = λ in_it by code e f. absurd (cc);
    apart = λ in_it o other c. elim (split_both (table_lock table) u.held (held_by (st.transaction o)) c) [
      | inl lock ↦ free o other lock
      | inr held ↦ (w.sound b.number in_it).apart s.number o (λ same. other (sym same)) (subst (λ z. Conflicts (held_by z) (held_by (st.transaction o))) (sym live) held)
    ];
    changed = λ in_it l q e f. ap (λ (z : Live). has_place z.held q) (sym (one_alive v l e)) ∙ (w.sound b.number in_it).changed s.number u q live (ap (λ (z : Live). is_some (fin.get z.changes q)) (one_alive v l e) ∙ f);
    fresh = λ in_it l q e f. ap (λ (z : Live). z.stale q) (sym (one_alive v l e)) ∙ (w.sound b.number in_it).fresh s.number u q live (ap (λ (z : Live). has_place z.held q) (one_alive v l e) ∙ f);
    stale = λ in_it l k e f. (u, live, ap (λ (z : Live). z.stale) (one_alive v l e));
  }

  abbrev x : Store
  x = settles st s.number (Alive v) st.next

  locked_acts : IsAct t s b (Locking work table) answers.Locked x
  locked_acts =
      settled_acts t h s b p waits (Locking work table) at waiting number answers.Locked (Alive v) st.next locked_settled
      (calm_numbers t h s b p waits (Locking work table) at waiting number answers.Locked refl) (calm_ahead t h s b p waits (Locking work table) at waiting number answers.Locked refl)

  locked_holds : Invariant (tracked_after t (Act s b answers.Locked))
  locked_holds =
      act_lands t s b answers.Locked x h (ap (λ z. settled st s.number (where_live (locked_by table) z)) (sym live) ∙ acted_is st s.number answers.Locked p (requests.Lock table) waits is)
      (facts_behind t h s b p waits (Locking work table) at waiting number answers.Locked is x locked_acts)
      (λ in_it o lives was. settled_alive st s.number (Alive v) st.next o (λ e. refl) was)

pub lock_kept : (t : Tracked) (s : SessionId) (b : BackendId) (p : Pending) (table : ℕ) → Invariant t → (t.world.store b.number).pending s.number ≡ Some p → p.request ≡ requests.Lock table
    → MayHappen t.world (Act s b answers.Locked) → Invariant (tracked_after t (Act s b answers.Locked))
lock_kept t s b p table h waits is may =
    let line : IsInLine (t.world.machine s.number) b.number p.request = (h.line s.number b.number).asked p may.0 waits in
    let o = lock_stage table line.stage (sym is ∙ line.asks) in
    let st : Store = t.world.store b.number in
    let u = live_of (st.transaction s.number) (λ k. IsFree st s.number (table_lock table)) (answers_of st s.number answers.Locked p (requests.Lock table) waits is may) in
    locked_holds t h s b p waits o.0 table line.at (line.waits ∙ ap (λ z. Waiting z line.at) o.1) line.number is u.0 u.1 u.2
