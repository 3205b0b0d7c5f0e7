-- An answer that leaves the committed rows, and changes the transaction of its session alone.
use Rattle.std.proofs.Common.{◌≡◌, ◌≢◌, ℕ, ℤ, true, false, refl, sym, ap, ◌∙◌, subst, inl, inr}
use Rattle.std.specs.Prelude.{◌⊎◌, slice_get, Option, Some, None, is_some}
use Rattle.std.specs.FinMap as fin
use Rattle.pool_base.specs.declared.code.Code.{Code}
use Rattle.pool_base.specs.declared.session_id.SessionId.{SessionId}
use Rattle.pool_base.specs.declared.backend_id.BackendId.{BackendId}
use Rattle.sql_eval.specs.declared.row.Row.{Row}
use Rattle.backend_trait.specs.Typed.{IsStored, AreAllStored}
use Rattle.backend_trait.specs.declared.answer.Answer.{Answer}
use Rattle.backend_trait.specs.declared.answer.Answer.TheVariants as answers
use Rattle.backend_trait.specs.Keys.{Place}
use Rattle.backend_trait.specs.Effect.{Wants, nothing, Conflicts, same_place, same_table, table_left, table_right, has_place}
use Rattle.backend_trait.specs.Rows.{no_changes}
use Rattle.backend_trait.specs.Store.{Live, Transaction, Alive, Pending, Store, held_by, settled}
use Rattle.backend_trait.specs.Acts.{IsOf}
use Rattle.session_machine.specs.declared.work.Work.{Work}
use Rattle.session_machine.specs.declared.machine.Stage.{Stage}
use Rattle.session_machine.specs.declared.machine.Stage.TheVariants.{Closing}
use Rattle.session_machine.specs.declared.machine.Point.TheVariants.{Waiting}
use Rattle.session_machine.specs.Rules.{request_of}
use Rattle.one_copy_model.specs.Tracking.{Told, Tracked, single}
use Rattle.one_copy_model.specs.Chains.{IsHeard, AreShaped, is_unposted}
use Rattle.one_copy_model.specs.Standing.{Stands, standing_in, standing_of, leaving_of}
use Rattle.one_copy_model.specs.Invariant.{Invariant, IsHere, IsSound, HasReason, inserted_in, numbers_behind}
use Rattle.one_copy_model.specs.Facts.{Going, Shared}
use Rattle.one_copy_model.proofs.Places.{same_or_other, with_at-same, with_at-other}
use Rattle.one_copy_model.proofs.Turning.{facts_of}
use Rattle.one_copy_laws.specs.Acted.{GoingBehind, InsertedBehind, IsAct}
use Rattle.one_copy_laws.proofs.ActsActing.{is_leaving, going_forth, inserted_forth, inserted_back}

pub swapped : (a c : Wants) → Conflicts a c → Conflicts c a
swapped a c (same_place p x y) = same_place p y x
swapped a c (same_table k x y) = same_table k y x
swapped a c (table_left p x y) = table_right p y x
swapped a c (table_right p x y) = table_left p y x

pub none_held : (w : Wants) → Conflicts nothing w → ⊥
none_held w (same_place p x y) = let e : false ≡ true = x in cc
none_held w (same_table k x y) = let e : false ≡ true = x in cc
none_held w (table_left p x y) = let e : false ≡ true = x in cc
none_held w (table_right p x y) = let e : false ≡ true = x in cc

abbrev pub settles : Store → ℕ → Transaction → (ℕ → Option ℤ) → Store
settles st s y next = record (settled st s y) { next = next }

-- what is to be shown of the transaction that the answer leaves
pub record IsSettled (t : Tracked) (s : SessionId) (b : BackendId) (stage : Stage) (answer : Answer) (y : Transaction) : Type 0 where
  pub still : is_leaving (standing_in stage None) ≡ false
  pub form : IsOf (request_of stage) answer
  pub posted : is_unposted stage ≡ false
  pub bases : (l : Live) → y ≡ Alive l → AreAllStored (t.world.store b.number).tables l.base
  pub changes : (l : Live) (p : Place) (row : Row) → y ≡ Alive l → fin.get l.changes p ≡ Some (Some row) → IsStored (slice_get (t.world.store b.number).tables p.table) p.key row
  pub closes : IsHere t.world b.number → (l : Live) → stage ≡ Closing → y ≡ Alive l → l.changes ≡ no_changes
  pub heard : IsHere t.world b.number → IsHeard (single t) s.number stage answer
  pub stands : IsHere t.world b.number
      → Stands (single t) s.number (leaving_of t.world.tables s.number t.history) (standing_in stage (Some answer)) y ((single t).transaction s.number)
  pub reasons : IsHere t.world b.number → (by : Told) (code : Code) → t.orders s.number ≡ Some by → answer ≡ answers.Refused code
      → HasReason t.world.tables stage s.number code by.entries t.history
  pub apart : IsHere t.world b.number → (o : ℕ) → o ≢ s.number → ¬ (Conflicts (held_by y) (held_by ((t.world.store b.number).transaction o)))
  pub changed : IsHere t.world b.number → (l : Live) (p : Place) → y ≡ Alive l → is_some (fin.get l.changes p) ≡ true → has_place l.held p ≡ true
  pub fresh : IsHere t.world b.number → (l : Live) (p : Place) → y ≡ Alive l → has_place l.held p ≡ true → l.stale p ≡ false
  pub stale : IsHere t.world b.number → (l u : Live) → y ≡ Alive l → (single t).transaction s.number ≡ Alive u
      → (k : Live) × ((t.world.store b.number).transaction s.number ≡ Alive k) × (k.stale ≡ l.stale)

module _ (t : Tracked) (h : Invariant t) (s : SessionId) (b : BackendId) (p : Pending) (waits : (t.world.store b.number).pending s.number ≡ Some p)
    (stage : Stage) (at : BackendId) (waiting : (t.world.machine s.number).point ≡ Waiting stage at) (number : at.number ≡ b.number) (answer : Answer)
    (y : Transaction) (next : ℕ → Option ℤ) (a : IsSettled t s b stage answer y)
    (numbers : IsHere t.world b.number → (table : ℕ) → ((o : ℕ) (work : Work) → ¬ (InsertedBehind t s.number b.number answer o table work)) → next table ≡ (single t).next table)
    (ahead : IsHere t.world b.number → (o table : ℕ) (work : Work) → InsertedBehind t s.number b.number answer o table work → next table ≡ numbers_behind (single t) o work table) where
  abbrev st : Store
  st = t.world.store b.number

  abbrev x : Store
  x = settles st s.number y next

  w : Shared t.world.tables t.world.gate.attached.bits t.history t.world.store t.world.machine t.world.mail
  w = (facts_of t h).shared

  -- the session's transaction, or another's
  each_of : (P : ℕ → Transaction → Type 0) → P s.number y → ((o : ℕ) → o ≢ s.number → P o (st.transaction o)) → (o : ℕ) → P o (x.transaction o)
  each_of P mine rest o = elim (same_or_other o s.number) [
    | inl is ↦ subst (λ j. P j (x.transaction j)) (sym is) (subst (P s.number) (sym (with_at-same st.transaction s.number y)) mine)
    | inr other ↦ subst (P o) (sym (with_at-other st.transaction s.number y o other)) (rest o other)
  ]

  mine_is : (o : ℕ) → o ≡ s.number → x.transaction o ≡ y
  mine_is o is = ap x.transaction is ∙ with_at-same st.transaction s.number y

  other_is : (o : ℕ) → o ≢ s.number → x.transaction o ≡ st.transaction o
  other_is o other = with_at-other st.transaction s.number y o other

  sound_behind : IsHere t.world b.number → IsSound x
  sound_behind in_it =
      let was : IsSound st = w.sound b.number in_it in
      record {
        apart = λ o k differ c. apart_at o k differ (same_or_other o s.number) (same_or_other k s.number) c;
        changed = each_of (λ o z. (l : Live) (q : Place) → z ≡ Alive l → is_some (fin.get l.changes q) ≡ true → has_place l.held q ≡ true) (a.changed in_it) (λ o other. was.changed o);
        fresh = each_of (λ o z. (l : Live) (q : Place) → z ≡ Alive l → has_place l.held q ≡ true → l.stale q ≡ false) (a.fresh in_it) (λ o other. was.fresh o);
      }
    where
      moved : (o k : ℕ) (c d : Transaction) → x.transaction o ≡ c → x.transaction k ≡ d → Conflicts (held_by (x.transaction o)) (held_by (x.transaction k)) → Conflicts (held_by c) (held_by d)
      moved o k c d e f conflict = subst (λ z. Conflicts (held_by c) (held_by z)) f (subst (λ z. Conflicts (held_by z) (held_by (x.transaction k))) e conflict)

      apart_at : (o k : ℕ) → o ≢ k → (o ≡ s.number) ⊎ (o ≢ s.number) → (k ≡ s.number) ⊎ (k ≢ s.number) → Conflicts (held_by (x.transaction o)) (held_by (x.transaction k)) → ⊥
      apart_at o k differ (inl is) (inl too) c = differ (is ∙ sym too)
      apart_at o k differ (inl is) (inr other) c = a.apart in_it k other (moved o k y (st.transaction k) (mine_is o is) (other_is k other) c)
      apart_at o k differ (inr other) (inl is) c = a.apart in_it o other (swapped (held_by (st.transaction o)) (held_by y) (moved o k (st.transaction o) y (other_is o other) (mine_is k is) c))
      apart_at o k differ (inr other) (inr more) c = (w.sound b.number in_it).apart o k differ (moved o k (st.transaction o) (st.transaction k) (other_is o other) (other_is k more) c)

  shaped_behind : AreShaped x
  shaped_behind =
      let was : AreShaped st = w.shaped b.number in
      record {
        rows = was.rows;
        bases = each_of (λ o z. (l : Live) → z ≡ Alive l → AreAllStored st.tables l.base) a.bases (λ o other. was.bases o);
        changes = each_of (λ o z. (l : Live) (q : Place) (row : Row) → z ≡ Alive l → fin.get l.changes q ≡ Some (Some row) → IsStored (slice_get st.tables q.table) q.key row) a.changes (λ o other. was.changes o);
      }

  forth : (u k : Live) (q : Place) → (k.stale q ≡ true) ⊎ ((o : ℕ) × Going t.world.tables t.history (t.world.machine o) (t.world.mail o) o b.number q) → (k.stale q ≡ true) ⊎ ((o : ℕ) × GoingBehind t s.number b.number answer o q)
  forth u k q (inl is) = inl is
  forth u k q (inr o) = inr (o.0, going_forth t h s b p waits stage at waiting number answer a.still o.0 q o.1)

  pub settled_acts : IsAct t s b stage answer x
  settled_acts = record {
    tables = refl;
    lost = refl;
    pending = refl;
    none = λ o other e. other_is o other ∙ e;
    form = a.form;
    posted = a.posted;
    shaped = shaped_behind;
    closes = λ in_it l e is. a.closes in_it l e (sym (with_at-same st.transaction s.number y) ∙ is);
    same_changes = λ o l other is. (l, sym (other_is o other) ∙ is, refl);
    heard = a.heard;
    stands = λ in_it. subst (λ z. Stands (single t) s.number (leaving_of t.world.tables s.number t.history) (standing_in stage (Some answer)) z ((single t).transaction s.number)) (sym (with_at-same st.transaction s.number y)) (a.stands in_it);
    others = λ in_it o other. subst (λ z. Stands (single t) o (leaving_of t.world.tables o t.history) (standing_of t.world o b.number) z ((single t).transaction o)) (sym (other_is o other)) (h.stands o b.number in_it);
    reasons = a.reasons;
    sound = sound_behind;
    stale_here = λ in_it. each_of (λ o z. (l u : Live) (q : Place) → z ≡ Alive l → (single t).transaction o ≡ Alive u → u.stale q ≡ true → (l.stale q ≡ true) ⊎ ((k : ℕ) × GoingBehind t s.number b.number answer k q))
        (λ l u q is_l is_u e. let k = a.stale in_it l u is_l is_u in elim (forth u k.0 q (w.stale_here s.number b.number k.0 u q in_it k.1 is_u e)) [ inl is ↦ inl (sym (ap (λ f. f q) k.2) ∙ is) | inr o ↦ inr o ])
        (λ o other l u q is_l is_u e. forth u l q (w.stale_here o b.number l u q in_it is_l is_u e));
    stale_there = λ in_it. each_of (λ o z. (l u : Live) (q : Place) → z ≡ Alive l → (single t).transaction o ≡ Alive u → l.stale q ≡ true → u.stale q ≡ true)
        (λ l u q is_l is_u e. let k = a.stale in_it l u is_l is_u in w.stale_there s.number b.number k.0 u q in_it k.1 is_u (ap (λ f. f q) k.2 ∙ e))
        (λ o other l u q is_l is_u. w.stale_there o b.number l u q in_it is_l is_u);
    rows = λ in_it q none. w.rows_same b.number q in_it (λ o g. none o (going_forth t h s b p waits stage at waiting number answer a.still o q g));
    numbers = numbers;
    ahead = ahead;
  }

-- where the answer is of no serial insert, and draws nothing
module _ (t : Tracked) (h : Invariant t) (s : SessionId) (b : BackendId) (p : Pending) (waits : (t.world.store b.number).pending s.number ≡ Some p)
    (stage : Stage) (at : BackendId) (waiting : (t.world.machine s.number).point ≡ Waiting stage at) (number : at.number ≡ b.number) (answer : Answer)
    (idle : inserted_in (Some stage) (Some answer) ≡ None) where
  pub calm_numbers : IsHere t.world b.number → (table : ℕ) → ((o : ℕ) (work : Work) → ¬ (InsertedBehind t s.number b.number answer o table work)) → (t.world.store b.number).next table ≡ (single t).next table
  calm_numbers in_it table none = (facts_of t h).shared.numbers b.number table in_it (λ o work i. none o work (inserted_forth t h s b p waits stage at waiting number answer o table work i))

  pub calm_ahead : IsHere t.world b.number → (o table : ℕ) (work : Work) → InsertedBehind t s.number b.number answer o table work → (t.world.store b.number).next table ≡ numbers_behind (single t) o work table
  calm_ahead in_it o table work i = elim (inserted_back t h s b p waits stage at waiting number answer o table work i) [
    | inl mine ↦ absurd (let z : None ≡ Some work = sym idle ∙ mine.1 in cc)
    | inr other ↦ (facts_of t h).shared.numbers_ahead o b.number table work in_it other.1
  ]
