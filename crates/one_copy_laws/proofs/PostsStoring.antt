-- One store changes in what waits at it alone.
use Rattle.std.proofs.Common.{◌≡◌, ◌≢◌, ℕ, zero, suc, Bool, true, false, ◌||◌, List, ℤ, refl, sym, ap, ◌∙◌, subst, inl, inr}
use Rattle.std.specs.Prelude.{slice_get, ◌⊎◌, ◌&&◌, Option, Some, None}
use Rattle.std.specs.FinMap as fin
use Rattle.pool_base.specs.Sets.{has}
use Rattle.schema.specs.declared.catalogue.TableDef.{TableDef}
use Rattle.backend_trait.specs.declared.answer.Answer.{Answer}
use Rattle.backend_trait.specs.Typed.{IsStored, AreAllStored}
use Rattle.backend_trait.specs.Rows.{Rows, with_at}
use Rattle.backend_trait.specs.Effect.{Conflicts}
use Rattle.backend_trait.specs.Store.{Live, Transaction, Alive, Pending, Store, held_by}
use Rattle.session_machine.specs.declared.machine.Machine.{Machine}
use Rattle.one_copy_model.specs.declared.deed.Entry.{Entry}
use Rattle.one_copy_model.specs.Marks.{is_crossed, with_mark, marked}
use Rattle.one_copy_model.specs.Numbers.{some_below}
use Rattle.one_copy_model.specs.SingleRun.{store_after}
use Rattle.one_copy_model.specs.Deaths.{is_live, is_alive_at, is_alive}
use Rattle.one_copy_model.specs.Tracking.{Told, Tracked, single}
use Rattle.one_copy_model.specs.Chains.{AreShaped}
use Rattle.one_copy_model.specs.Standing.{Stands, leaving_of}
use Rattle.one_copy_model.specs.Invariant.{Invariant, IsSound, IsInLine}
use Rattle.one_copy_model.proofs.MarkLaws.{marked_only}
use Rattle.one_copy_model.specs.Own.{stand, IsIn, Own}
use Rattle.one_copy_model.specs.Facts.{Shared}
use Rattle.one_copy_model.proofs.Places.{same_or_other, with_at-same, with_at-other}
use Rattle.one_copy_model.proofs.Turning.{FactsOf, facts_of, invariant_of, live_there}
use Rattle.one_copy_laws.proofs.MarksCrossings.{carried}
use Rattle.one_copy_laws.proofs.MarksMarking.{marked_there}
use Rattle.one_copy_laws.specs.Remarked.{remarked}

pub below_same : (p q : ℕ → Bool) → ((k : ℕ) → p k ≡ q k) → (n : ℕ) → some_below p n ≡ some_below q n
below_same p q same zero = refl
below_same p q same (suc n) = ap (λ (x : Bool). x || some_below p n) (same n) ∙ ap (λ (x : Bool). q n || x) (below_same p q same n)

sound_as : (st new : Store) → new.transaction ≡ st.transaction → IsSound st → IsSound new
sound_as st new same h = record {
  apart = λ a o differ c. h.apart a o differ (subst (λ (x : ℕ → Transaction). Conflicts (held_by (x a)) (held_by (x o))) same c);
  changed = λ a t p is. h.changed a t p (sym (ap (λ (x : ℕ → Transaction). x a) same) ∙ is);
  fresh = λ a t p is. h.fresh a t p (sym (ap (λ (x : ℕ → Transaction). x a) same) ∙ is);
}

shaped_as : (st new : Store) → new.tables ≡ st.tables → new.rows ≡ st.rows → new.transaction ≡ st.transaction → AreShaped st → AreShaped new
shaped_as st new tables rows same h = record {
  rows = subst (λ (ts : List TableDef). AreAllStored ts new.rows) (sym tables) (subst (λ (r : Rows). AreAllStored st.tables r) (sym rows) h.rows);
  bases = λ s t is. subst (λ (ts : List TableDef). AreAllStored ts t.base) (sym tables) (h.bases s t (sym (ap (λ (x : ℕ → Transaction). x s) same) ∙ is));
  changes = λ s t p row is e. subst (λ (ts : List TableDef). IsStored (slice_get ts p.table) p.key row) (sym tables) (h.changes s t p row (sym (ap (λ (x : ℕ → Transaction). x s) same) ∙ is) e);
}

module _ (tables : List TableDef) (here : ℕ → Store) (b : ℕ) (x : Store) (same_tables : x.tables ≡ (here b).tables) (rows : x.rows ≡ (here b).rows) (next : x.next ≡ (here b).next) (transaction : x.transaction ≡ (here b).transaction) (lost : x.lost ≡ (here b).lost) where
  abbrev pub now : ℕ → Store
  now = with_at here b x

  at_store : {A : Type 0} (g : Store → A) → g x ≡ g (here b) → (k : ℕ) → g (now k) ≡ g (here k)
  at_store g same k = elim (same_or_other k b) [
    | inl e ↦ ap (λ j. g (now j)) e ∙ ap g (with_at-same here b x) ∙ same ∙ ap (λ j. g (here j)) (sym e)
    | inr other ↦ ap g (with_at-other here b x k other)
  ]

  tables_at : (k : ℕ) → (now k).tables ≡ (here k).tables
  tables_at = at_store (λ st. st.tables) same_tables

  rows_at : (k : ℕ) → (now k).rows ≡ (here k).rows
  rows_at = at_store (λ st. st.rows) rows

  next_at : (k : ℕ) → (now k).next ≡ (here k).next
  next_at = at_store (λ st. st.next) next

  pub transaction_at : (k : ℕ) → (now k).transaction ≡ (here k).transaction
  transaction_at = at_store (λ st. st.transaction) transaction

  lost_at : (k : ℕ) → (now k).lost ≡ (here k).lost
  lost_at = at_store (λ st. st.lost) lost

  live_at : (k s : ℕ) (l : Live) → (now k).transaction s ≡ Alive l → (here k).transaction s ≡ Alive l
  live_at k s l e = sym (ap (λ (f : ℕ → Transaction). f s) (transaction_at k)) ∙ e

  pub shared_now : (attached : ℕ) (history : List Entry) (machine : ℕ → Machine) (mail : ℕ → ℕ → Option Answer) → Shared tables attached history here machine mail → Shared tables attached history now machine mail
  shared_now attached history machine mail h = record {
    tables_here = λ k. tables_at k ∙ h.tables_here k;
    sound = λ k at. sound_as (here k) (now k) (transaction_at k) (h.sound k at);
    shaped = λ k. shaped_as (here k) (now k) (tables_at k) (rows_at k) (transaction_at k) (h.shaped k);
    sound_there = h.sound_there;
    undead = h.undead;
    stale = h.stale;
    stale_here = λ s k l u p at is. h.stale_here s k l u p at (live_at k s l is);
    stale_there = λ s k l u p at is. h.stale_there s k l u p at (live_at k s l is);
    rows_same = λ k p at none. ap (λ (r : Rows). fin.get r p) (rows_at k) ∙ h.rows_same k p at none;
    rows_left = h.rows_left;
    numbers = λ k table at none. ap (λ (f : ℕ → Option ℤ). f table) (next_at k) ∙ h.numbers k table at none;
    numbers_ahead = λ s k table work at i. ap (λ (f : ℕ → Option ℤ). f table) (next_at k) ∙ h.numbers_ahead s k table work at i;
    locks = h.locks;
    run = h.run;
  }

  -- what waits for a session may have another mark
  module _ (o : ℕ) (was : (p : Pending) → x.pending o ≡ Some p → (q : Pending) × ((here b).pending o ≡ Some q) × (p.request ≡ q.request)) (none : (here b).pending o ≡ None → x.pending o ≡ None) where
    was_at : (k : ℕ) (p : Pending) → (now k).pending o ≡ Some p → (q : Pending) × ((here k).pending o ≡ Some q) × (p.request ≡ q.request)
    was_at k p e = elim (same_or_other k b) [
      | inl is ↦ (let w = was p (sym (ap (λ (st : Store). st.pending o) (ap now is ∙ with_at-same here b x)) ∙ e) in (w.0, ap (λ j. (here j).pending o) is ∙ w.1, w.2))
      | inr other ↦ (p, sym (ap (λ (st : Store). st.pending o) (with_at-other here b x k other)) ∙ e, refl)
    ]

    none_at : (k : ℕ) → (here k).pending o ≡ None → (now k).pending o ≡ None
    none_at k e = elim (same_or_other k b) [
      | inl is ↦ ap (λ (st : Store). st.pending o) (ap now is ∙ with_at-same here b x) ∙ none (ap (λ j. (here j).pending o) (sym is) ∙ e)
      | inr other ↦ ap (λ (st : Store). st.pending o) (with_at-other here b x k other) ∙ e
    ]

    pub own_now : (attached : ℕ) (history : List Entry) (m : Machine) (mail : ℕ → Option Answer) (told : Option Told) (done : ℕ → Bool) (live : Bool)
        → ((p q : Pending) → IsIn attached b → (here b).lost ≡ false → x.pending o ≡ Some p → (store_after tables history).pending o ≡ Some q → p.crossed ≡ true → q.crossed ≡ true)
        → Own tables attached history here m mail told done live o → Own tables attached history now m mail told done live o
    own_now attached history m mail told done live crossed h = record {
      stranger = λ is. let r = h.stranger is in record {
        point = r.point;
        out = r.out;
        asks = λ k. none_at k (r.asks k);
        none = λ k. ap (λ (f : ℕ → Transaction). f o) (transaction_at k) ∙ r.none k;
        told = r.told;
        none_there = r.none_there;
      };
      inside = h.inside;
      classed = h.classed;
      asked = λ k p sound e. let w = was_at k p e in subst (IsInLine m k) (sym w.2) (h.asked k w.0 (sym (lost_at k) ∙ sound) w.1);
      untold = λ k p e. let w = was_at k p e in h.untold k w.0 w.1;
      answer = h.answer;
      in_order = h.in_order;
      heard = h.heard;
      parting = h.parting;
      causes = h.causes;
      stands = λ k at. subst (λ (f : ℕ → Transaction). Stands (store_after tables history) o (leaving_of tables o history) (stand m mail k) (f o) ((store_after tables history).transaction o)) (sym (transaction_at k)) (h.stands k at);
      crossed = λ k p q at sound e there mark. crossed_at k p q (same_or_other k b) at sound e there mark;
      unchanged = h.unchanged;
      closes = λ k l at e is. h.closes k l at e (sym (ap (λ (f : ℕ → Transaction). f o) (transaction_at k)) ∙ is);
      reasons = h.reasons;
      posts = h.posts;
      replies = h.replies;
      orders = h.orders;
      order_is = h.order_is;
      since = h.since;
      commits = h.commits;
      done_first = h.done_first;
    }
      where
        crossed_at : (k : ℕ) (p q : Pending) → (k ≡ b) ⊎ (k ≢ b) → IsIn attached k → (now k).lost ≡ false → (now k).pending o ≡ Some p → (store_after tables history).pending o ≡ Some q → p.crossed ≡ true → q.crossed ≡ true
        crossed_at k p q (inl is) at sound e there mark =
            crossed p q (subst (IsIn attached) is at) (ap (λ j. (here j).lost) (sym is) ∙ sym (lost_at k) ∙ sound)
            (sym (ap (λ (st : Store). st.pending o) (ap now is ∙ with_at-same here b x)) ∙ e) there mark
        crossed_at k p q (inr other) at sound e there mark =
            h.crossed k p q at (sym (lost_at k) ∙ sound) (sym (ap (λ (st : Store). st.pending o) (with_at-other here b x k other)) ∙ e) there mark

-- the marks of a store
some_is : (a c : Pending) → Some a ≡ Some c → a ≡ c
some_is a c e = cc

or_true : (a c : Bool) → (a || c) ≡ true → (a ≡ true) ⊎ (c ≡ true)
or_true true c e = inl refl
or_true false c e = inr e

module _ (t : Tracked) (b : ℕ) (h : Invariant t) where
  abbrev st : Store
  st = t.world.store b

  mark_was : (o : ℕ) (was : Option Pending) (p : Pending) → with_mark st o was ≡ Some p → (q : Pending) × (was ≡ Some q) × (p.request ≡ q.request) × ((q.crossed || is_crossed st o q.request) ≡ p.crossed)
  mark_was o None p e = absurd (let z : None ≡ Some p = e in cc)
  mark_was o (Some q) p e =
      let same : record { request = q.request; crossed = q.crossed || is_crossed st o q.request } ≡ p = some_is (record { request = q.request; crossed = q.crossed || is_crossed st o q.request }) p e in
      (q, refl, ap (λ (y : Pending). y.request) (sym same), ap (λ (y : Pending). y.crossed) same)

  mark_right : (o : ℕ) (p q : Pending) → IsIn t.world.gate.attached.bits b → st.lost ≡ false → (marked st).pending o ≡ Some p → (single t).pending o ≡ Some q → p.crossed ≡ true → q.crossed ≡ true
  mark_right o p q at sound e there mark =
      let w = mark_was o (st.pending o) p e in
      elim (or_true w.0.crossed (is_crossed st o w.0.request) (w.3 ∙ mark)) [
        | inl old ↦ h.crossed_there o b w.0 q at sound w.1 there old
        | inr new ↦ marked_there t o q h there (carried t b o w.0 q h at sound w.1 there (marked_only st o w.0.request new))
      ]

  alive_as : (s : ℕ) → is_alive (remarked t b).world s ≡ is_alive t.world s
  unfolding is_alive
  alive_as s = below_same (is_alive_at (remarked t b).world s) (is_alive_at t.world s)
      (λ k. ap (λ (f : ℕ → Transaction). has t.world.gate.attached.bits k && is_live (f s)) (transaction_at t.world.tables t.world.store b (marked st) refl refl refl refl refl k)) 8

  pub remarks_at : Invariant (remarked t b)
  remarks_at =
      let f : FactsOf t = facts_of t h in
      invariant_of (remarked t b) (record {
        own = λ o. own_now t.world.tables t.world.store b (marked st) refl refl refl refl refl o
            (λ p e. let w = mark_was o (st.pending o) p e in (w.0, w.1, w.2))
            (λ e. ap (with_mark st o) e)
            t.world.gate.attached.bits t.history (t.world.machine o) (t.world.mail o) (t.orders o) (t.done o) (live_there t o) (mark_right o) (f.own o);
        shared = shared_now t.world.tables t.world.store b (marked st) refl refl refl refl refl t.world.gate.attached.bits t.history t.world.machine t.world.mail f.shared;
        counts = f.counts;
      }) (λ s live. alive_as s ∙ h.alive s live)

pub remarks : (t : Tracked) (b : ℕ) → Invariant t → Invariant (remarked t b)
remarks t b h = remarks_at t b h
