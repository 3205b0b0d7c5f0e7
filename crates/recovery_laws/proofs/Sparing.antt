-- A backend that is not attached gets another store: the facts hold on.
use Rattle.std.proofs.Common.{◌≡◌, ◌<◌, ℕ, zero, suc, arith, Bool, true, false, ◌||◌, List, refl, sym, ap, ◌∙◌, subst}
use Rattle.std.specs.Prelude.{◌&&◌, ◌⊎◌, Some, None}
use Rattle.std.specs.FinMap as fin
use Rattle.pool_base.specs.Sets.{has}
use Rattle.backend_trait.specs.Rows.{with_at, no_changes}
use Rattle.backend_trait.specs.Store.{Absent, Alive, Pending, Store, prepared}
use Rattle.session_machine.specs.declared.work.Work.{Work}
use Rattle.one_copy_model.specs.declared.deed.Entry.{Entry}
use Rattle.one_copy_model.specs.Numbers.{some_below}
use Rattle.one_copy_model.specs.World.{World}
use Rattle.one_copy_model.specs.Deaths.{is_live, is_alive_at, is_alive, fallen}
use Rattle.one_copy_model.specs.Tracking.{Tracked, single}
use Rattle.one_copy_model.specs.Chains.{AreShaped}
use Rattle.one_copy_model.specs.Standing.{Stands, leaving_of}
use Rattle.one_copy_model.specs.Invariant.{Invariant, IsInLine, IsSound, numbers_behind}
use Rattle.one_copy_model.proofs.InvariantLaws.{holds_first}
use Rattle.one_copy_model.proofs.LossLaws.{none_fall}
use Rattle.one_copy_model.specs.Own.{IsIn, stand}
use Rattle.one_copy_model.specs.Facts.{Going, Inserted}
use Rattle.one_copy_model.proofs.Places.{each_at}
use Rattle.one_copy_model.proofs.Turning.{FactsOf, facts_of, invariant_of}
use Rattle.recovery_laws.specs.Ready.{IsSpare, with_spare}

pub below_same : (p q : ℕ → Bool) → ((k : ℕ) → p k ≡ q k) → (n : ℕ) → some_below p n ≡ some_below q n
below_same p q same zero = refl
below_same p q same (suc n) = ap (λ (x : Bool). x || some_below p n) (same n) ∙ ap (λ (x : Bool). q n || x) (below_same p q same n)

-- deaths are none where the invariant holds without them
pub landed : (w : World) (t : Tracked) → Invariant (record { world = w; history = t.history; orders = t.orders; done = t.done })
    → Invariant (record { world = w; history = fallen w t.history 65; orders = t.orders; done = t.done })
landed w t h =
    subst (λ (history : List Entry). Invariant (record { world = w; history = history; orders = t.orders; done = t.done }))
    (sym (none_fall w t.history h.alive 65)) h

module _ (t : Tracked) (b : ℕ) (st : Store) (h : Invariant t) (out : has t.world.gate.attached.bits b ≡ false) (spare : IsSpare t.world b st) where
  abbrev attached : ℕ
  attached = t.world.gate.attached.bits

  abbrev store : ℕ → Store
  store = with_at t.world.store b st

  abbrev new : World
  new = record t.world { store = store }

  abbrev there : Tracked
  there = record { world = new; history = t.history; orders = t.orders; done = t.done }

  not_in : {P : Type 0} → IsIn attached b → P
  not_in at = absurd (let n : false ≡ true = sym out ∙ at in cc)

  -- a fact of the attached stores
  attached_all : (P : ℕ → Store → Type 0) → ((k : ℕ) → IsIn attached k → P k (t.world.store k)) → (k : ℕ) → IsIn attached k → P k (store k)
  attached_all P old = each_at (λ k x. IsIn attached k → P k x) t.world.store b st (λ at. not_in at) (λ k other. old k)

  all_of : (P : ℕ → Store → Type 0) → P b st → ((k : ℕ) → P k (t.world.store k)) → (k : ℕ) → P k (store k)
  all_of P here old = each_at P t.world.store b st here (λ k other. old k)

  facts : FactsOf there
  facts = let f = facts_of t h in record {
    own = λ s. let o = f.own s in record {
      stranger = λ is. let r = o.stranger is in record {
        point = r.point;
        out = r.out;
        asks = all_of (λ k x. x.pending s ≡ None) (spare.unasked s (r.asks b)) r.asks;
        none = all_of (λ k x. x.transaction s ≡ Absent) (spare.none s (r.none b)) r.none;
        told = r.told;
        none_there = r.none_there;
      };
      inside = o.inside;
      classed = o.classed;
      asked = all_of (λ k x. (p : Pending) → x.lost ≡ false → x.pending s ≡ Some p → IsInLine (t.world.machine s) k p.request)
          (λ p kept e. o.asked b p ((spare.asks s p e).1 kept) (spare.asks s p e).0) o.asked;
      untold = all_of (λ k x. (p : Pending) → x.pending s ≡ Some p → t.world.mail s k ≡ None) (λ p e. o.untold b p (spare.asks s p e).0) o.untold;
      answer = o.answer;
      in_order = o.in_order;
      heard = o.heard;
      parting = o.parting;
      causes = o.causes;
      stands = attached_all (λ k x. Stands (single t) s (leaving_of t.world.tables s t.history) (stand (t.world.machine s) (t.world.mail s) k) (x.transaction s) ((single t).transaction s)) o.stands;
      crossed = λ k p q at. attached_all (λ j x. x.lost ≡ false → x.pending s ≡ Some p → (single t).pending s ≡ Some q → p.crossed ≡ true → q.crossed ≡ true) (λ j in_it. o.crossed j p q in_it) k at;
      unchanged = o.unchanged;
      closes = λ k l at is. attached_all (λ j x. x.transaction s ≡ Alive l → l.changes ≡ no_changes) (λ j in_it. o.closes j l in_it is) k at;
      reasons = o.reasons;
      posts = o.posts;
      replies = o.replies;
      orders = o.orders;
      order_is = o.order_is;
      since = o.since;
      commits = o.commits;
      done_first = o.done_first;
    };
    shared = let a = f.shared in record {
      tables_here = all_of (λ k x. x.tables ≡ t.world.tables) spare.tables a.tables_here;
      sound = attached_all (λ k x. IsSound x) a.sound;
      shaped = all_of (λ k x. AreShaped x) spare.shaped a.shaped;
      sound_there = a.sound_there;
      undead = a.undead;
      stale = a.stale;
      stale_here = λ s k l u p at. attached_all (λ j x. x.transaction s ≡ Alive l → (single t).transaction s ≡ Alive u → u.stale p ≡ true
          → (l.stale p ≡ true) ⊎ ((o : ℕ) × Going t.world.tables t.history (t.world.machine o) (t.world.mail o) o j p)) (λ j in_it. a.stale_here s j l u p in_it) k at;
      stale_there = λ s k l u p at. attached_all (λ j x. x.transaction s ≡ Alive l → (single t).transaction s ≡ Alive u → l.stale p ≡ true → u.stale p ≡ true)
          (λ j in_it. a.stale_there s j l u p in_it) k at;
      rows_same = λ k p at. attached_all (λ j x. ((o : ℕ) → ¬ (Going t.world.tables t.history (t.world.machine o) (t.world.mail o) o j p)) → fin.get x.rows p ≡ fin.get (single t).rows p)
          (λ j in_it. a.rows_same j p in_it) k at;
      rows_left = a.rows_left;
      numbers = λ k table at. attached_all (λ j x. ((s : ℕ) (work : Work) → ¬ (Inserted t.world.tables t.history (t.world.machine s) (t.world.mail s) s j table work)) → x.next table ≡ (single t).next table)
          (λ j in_it. a.numbers j table in_it) k at;
      numbers_ahead = λ s k table work at. attached_all (λ j x. Inserted t.world.tables t.history (t.world.machine s) (t.world.mail s) s j table work → x.next table ≡ numbers_behind (single t) s work table)
          (λ j in_it. a.numbers_ahead s j table work in_it) k at;
      locks = a.locks;
      run = a.run;
    };
    counts = let c = f.counts in record { snaps = c.snaps; commits = c.commits; live = c.live; apart = c.apart; quiet = c.quiet; few = c.few };
  }

  same_at : (s k : ℕ) → is_alive_at new s k ≡ is_alive_at t.world s k
  same_at s = all_of (λ k x. (has attached k && is_live (x.transaction s)) ≡ is_alive_at t.world s k)
      (subst (λ v. (v && is_live (st.transaction s)) ≡ (v && is_live ((t.world.store b).transaction s))) (sym out) refl) (λ k. refl)

  same_alive : (s : ℕ) → is_alive new s ≡ is_alive t.world s
  unfolding is_alive
  same_alive s = below_same (is_alive_at new s) (is_alive_at t.world s) (same_at s) 8

  pub spare_kept : Invariant (with_spare t b st)
  spare_kept = landed new t (invariant_of there facts (λ s live. same_alive s ∙ h.alive s live))

-- A blank store.

pub blank_spare : (w : World) (b : ℕ) → IsSpare w b (prepared w.tables)
blank_spare w b = record {
  tables = refl;
  shaped = (holds_first w.tables (w.machine 0).session.policy (record { bits = 0 }) (let z : 0 < 256 = omega arith in z)).shaped 0;
  asks = λ o p e. absurd (let z : None ≡ Some p = e in cc);
  unasked = λ o e. refl;
  none = λ o e. refl;
}

pub swap_kept : (t : Tracked) (b : ℕ) → Invariant t → has t.world.gate.attached.bits b ≡ false → Invariant (with_spare t b (prepared t.world.tables))
swap_kept t b h out = spare_kept t b (prepared t.world.tables) h out (blank_spare t.world b)
