-- The single run goes on by deeds of one session that changes no committed row; the stores stay: what is of all sessions together.
use Rattle.std.proofs.Common.{◌≡◌, ◌≢◌, ℕ, true, false, List, ℤ, sym, ap, ◌∙◌, subst, inl, inr}
use Rattle.std.specs.Prelude.{◌⊎◌, is_some, Option, Some}
use Rattle.std.specs.FinMap as fin
use Rattle.schema.specs.declared.catalogue.TableDef.{TableDef}
use Rattle.backend_trait.specs.declared.answer.Answer.{Answer}
use Rattle.backend_trait.specs.Keys.{Place}
use Rattle.backend_trait.specs.Rows.{Rows, with_at}
use Rattle.backend_trait.specs.Effect.{Wants, nothing, Conflicts, same_place, same_table, table_left, table_right}
use Rattle.backend_trait.specs.Store.{Live, Transaction, Absent, Alive, Store, held_by}
use Rattle.session_machine.specs.declared.work.Work.{Work}
use Rattle.session_machine.specs.declared.machine.Machine.{Machine}
use Rattle.one_copy_model.specs.declared.deed.Entry.{Entry}
use Rattle.one_copy_model.specs.SingleRun.{store_after, IsRun}
use Rattle.one_copy_model.specs.Deaths.{is_live, stage_at}
use Rattle.one_copy_model.specs.Tracking.{in_commit}
use Rattle.one_copy_model.specs.Standing.{Leaving, leaving_of}
use Rattle.one_copy_model.specs.Invariant.{IsSound, is_dead, inserted_in, drawn_where, numbers_behind, HaveLocks}
use Rattle.one_copy_model.specs.Own.{told_by, stand, IsIn}
use Rattle.one_copy_model.specs.Facts.{Going, Inserted, Shared}
use Rattle.one_copy_model.proofs.Places.{same_or_other, each_at, each_at2}
use Rattle.one_copy_model.proofs.Tables.{tables_same}
use Rattle.one_copy_model.proofs.Passing.{Passes}
use Rattle.one_copy_model.proofs.Locks.{no_right}

-- who holds nothing is in nobody's way
pub no_left : (a : Wants) → ¬ (Conflicts nothing a)
no_left a (same_place p x y) = let e : false ≡ true = x in cc
no_left a (same_table t x y) = let e : false ≡ true = x in cc
no_left a (table_left p x y) = let e : false ≡ true = x in cc
no_left a (table_right p x y) = let e : false ≡ true = x in cc

not_live : (x : Transaction) (t : Live) → x ≡ Absent → x ≡ Alive t → ⊥
not_live x t e f = let n : Absent ≡ Alive t = sym e ∙ f in cc

-- one transaction has ended
module _ (old new : Store) (s : ℕ) (others : (o : ℕ) → o ≢ s → new.transaction o ≡ old.transaction o) (none : new.transaction s ≡ Absent) where
  apart_ended : IsSound old → (a o : ℕ) → a ≢ o → ¬ (Conflicts (held_by (new.transaction a)) (held_by (new.transaction o)))
  apart_ended h a o differ c = elim (same_or_other a s) [
    | inl is ↦ no_left (held_by (new.transaction o)) (subst (λ (x : Transaction). Conflicts (held_by x) (held_by (new.transaction o))) (ap new.transaction is ∙ none) c)
    | inr not_a ↦ elim (same_or_other o s) [
      | inl is ↦ no_right (held_by (new.transaction a)) (subst (λ (x : Transaction). Conflicts (held_by (new.transaction a)) (held_by x)) (ap new.transaction is ∙ none) c)
      | inr not_o ↦ h.apart a o differ (subst (λ (x : Transaction). Conflicts (held_by x) (held_by (old.transaction o))) (others a not_a) (subst (λ (x : Transaction). Conflicts (held_by (new.transaction a)) (held_by x)) (others o not_o) c))
    ]
  ]

  pub was_live : (o : ℕ) (t : Live) → new.transaction o ≡ Alive t → (o ≢ s) × (old.transaction o ≡ Alive t)
  was_live o t is = elim (same_or_other o s) [
    | inl e ↦ absurd (not_live (new.transaction o) t (ap new.transaction e ∙ none) is)
    | inr other ↦ (other, sym (others o other) ∙ is)
  ]

  pub sound_ended : IsSound old → IsSound new
  sound_ended h = record {
    apart = apart_ended h;
    changed = λ o t p is. h.changed o t p (was_live o t is).1;
    fresh = λ o t p is. h.fresh o t p (was_live o t is).1;
  }

  pub undead_ended : ((o : ℕ) → is_dead (old.transaction o) ≡ false) → (o : ℕ) → is_dead (new.transaction o) ≡ false
  undead_ended h o = elim (same_or_other o s) [
    | inl e ↦ ap is_dead (ap new.transaction e ∙ none)
    | inr other ↦ ap is_dead (others o other) ∙ h o
  ]

-- the numbers behind a run are read off the tables, the numbers and the transaction
pub behind_same : (old new : Store) (o : ℕ) (work : Work) (table : ℕ) → new.tables ≡ old.tables → new.transaction o ≡ old.transaction o → new.next ≡ old.next → numbers_behind new o work table ≡ numbers_behind old o work table
behind_same old new o work table tables transaction next =
    ap (λ (ts : List TableDef). drawn_where ts new.next work (new.transaction o) table) tables
    ∙ ap (λ (x : Transaction). drawn_where old.tables new.next work x table) transaction
    ∙ ap (λ (f : ℕ → Option ℤ). drawn_where old.tables f work (old.transaction o) table) next

-- one session moves on, whose transaction leaves nowhere, before and behind
module _ (tables : List TableDef) (attached : ℕ) (old new : List Entry) (here : ℕ → Store) (machine : ℕ → Machine) (mail : ℕ → ℕ → Option Answer)
    (s : ℕ) (n : Machine) (post : ℕ → Option Answer)
    (passes : (o : ℕ) → o ≢ s → Passes tables o old new)
    (stays : (b : ℕ) → IsIn attached b → stand (machine s) (mail s) b ≢ Leaving)
    (lasts : (b : ℕ) → IsIn attached b → stand n post b ≢ Leaving)
    (outside : in_commit n.session.gate ≡ false)
    (idle : (b : ℕ) (work : Work) → IsIn attached b → inserted_in (stage_at (machine s).point) (told_by (machine s) (mail s) b) ≡ Some work → ⊥)
    (idles : (b : ℕ) (work : Work) → IsIn attached b → inserted_in (stage_at n.point) (told_by n post b) ≡ Some work → ⊥) where
  going_to : (b : ℕ) (p : Place) → IsIn attached b → (o : ℕ) → Going tables old (machine o) (mail o) o b p → Going tables new (with_at machine s n o) (with_at mail s post o) o b p
  going_to b p at = each_at2 (λ o x y. Going tables old (machine o) (mail o) o b p → Going tables new x y o b p) machine mail s n post
      (λ g. absurd (stays b at g.leaves))
      (λ o other g. record { leaves = g.leaves; last = g.last; was = (passes o other).leaving ∙ g.was; changes = g.changes })

  going_from : (b : ℕ) (p : Place) → IsIn attached b → (o : ℕ) → Going tables new (with_at machine s n o) (with_at mail s post o) o b p → (o ≢ s) × Going tables old (machine o) (mail o) o b p
  going_from b p at = each_at2 (λ o x y. Going tables new x y o b p → (o ≢ s) × Going tables old (machine o) (mail o) o b p) machine mail s n post
      (λ g. absurd (lasts b at g.leaves))
      (λ o other g. (other, record { leaves = g.leaves; last = g.last; was = sym (passes o other).leaving ∙ g.was; changes = g.changes }))

  inserted_to : (b table : ℕ) (work : Work) → IsIn attached b → (o : ℕ) → Inserted tables old (machine o) (mail o) o b table work → Inserted tables new (with_at machine s n o) (with_at mail s post o) o b table work
  inserted_to b table work at = each_at2 (λ o x y. Inserted tables old (machine o) (mail o) o b table work → Inserted tables new x y o b table work) machine mail s n post
      (λ i. absurd (idle b work at i.inserted))
      (λ o other i. record { live = ap is_live (passes o other).transaction ∙ i.live; inserted = i.inserted; at = i.at })

  inserted_from : (b table : ℕ) (work : Work) → IsIn attached b → (o : ℕ) → Inserted tables new (with_at machine s n o) (with_at mail s post o) o b table work → (o ≢ s) × Inserted tables old (machine o) (mail o) o b table work
  inserted_from b table work at = each_at2 (λ o x y. Inserted tables new x y o b table work → (o ≢ s) × Inserted tables old (machine o) (mail o) o b table work) machine mail s n post
      (λ i. absurd (idles b work at i.inserted))
      (λ o other i. (other, record { live = ap is_live (sym (passes o other).transaction) ∙ i.live; inserted = i.inserted; at = i.at }))

  commit_from : (o : ℕ) → in_commit (with_at machine s n o).session.gate ≡ true → (o ≢ s) × (in_commit (machine o).session.gate ≡ true)
  commit_from = each_at (λ o x. in_commit x.session.gate ≡ true → (o ≢ s) × (in_commit (machine o).session.gate ≡ true)) machine s n
      (λ e. absurd (let z : false ≡ true = sym outside ∙ e in cc))
      (λ o other e. (other, e))

  -- who is live was so before and is as stale, or begins: nothing is stale to it here and there, and nobody commits
  pub record Begins (a : ℕ) (u : Live) : Type 0 where
    pub fresh : (p : Place) → u.stale p ≡ false
    pub fresh_here : (b : ℕ) (l : Live) (p : Place) → IsIn attached b → (here b).transaction a ≡ Alive l → l.stale p ≡ false
    pub alone : (o : ℕ) → in_commit (machine o).session.gate ≡ true → ⊥

  stale_by : (a : ℕ) (u : Live) (o : ℕ) (p : Place) (last : Live) → ((v : Live) × ((store_after tables old).transaction a ≡ Alive v) × (u.stale ≡ v.stale)) ⊎ Begins a u → Shared tables attached old here machine mail
      → (o ≢ s) × (in_commit (machine o).session.gate ≡ true) → leaving_of tables o new ≡ Alive last → is_some (fin.get last.changes p) ≡ true → u.stale p ≡ true
  stale_by a u o p last (inl v) h c left changes = ap (λ f. f p) v.2 ∙ h.stale o a p last v.0 c.1 (sym (passes o c.0).leaving ∙ left) changes v.1
  stale_by a u o p last (inr begins) h c left changes = absurd (begins.alone o c.1)

  here_by : (a b : ℕ) (l u : Live) (p : Place) → ((v : Live) × ((store_after tables old).transaction a ≡ Alive v) × (u.stale ≡ v.stale)) ⊎ Begins a u → Shared tables attached old here machine mail
      → IsIn attached b → (here b).transaction a ≡ Alive l → u.stale p ≡ true
      → (l.stale p ≡ true) ⊎ ((o : ℕ) × Going tables new (with_at machine s n o) (with_at mail s post o) o b p)
  here_by a b l u p (inl v) h at is_l e = elim (h.stale_here a b l v.0 p at is_l v.1 (sym (ap (λ f. f p) v.2) ∙ e)) [ inl is ↦ inl is | inr o ↦ inr (o.0, going_to b p at o.0 o.1) ]
  here_by a b l u p (inr begins) h at is_l e = absurd (let z : true ≡ false = sym e ∙ begins.fresh p in cc)

  there_by : (a b : ℕ) (l u : Live) (p : Place) → ((v : Live) × ((store_after tables old).transaction a ≡ Alive v) × (u.stale ≡ v.stale)) ⊎ Begins a u → Shared tables attached old here machine mail
      → IsIn attached b → (here b).transaction a ≡ Alive l → l.stale p ≡ true → u.stale p ≡ true
  there_by a b l u p (inl v) h at is_l e = ap (λ f. f p) v.2 ∙ h.stale_there a b l v.0 p at is_l v.1 e
  there_by a b l u p (inr begins) h at is_l e = absurd (let z : true ≡ false = sym e ∙ begins.fresh_here b l p at is_l in cc)

  -- what the step of its own transaction asks of
  pub turned_with : (rows : (store_after tables new).rows ≡ (store_after tables old).rows) (next : (store_after tables new).next ≡ (store_after tables old).next)
      → IsSound (store_after tables new)
      → ((o : ℕ) → is_dead ((store_after tables new).transaction o) ≡ false)
      → IsRun tables new
      → ((a : ℕ) (u : Live) → (store_after tables new).transaction a ≡ Alive u → ((v : Live) × ((store_after tables old).transaction a ≡ Alive v) × (u.stale ≡ v.stale)) ⊎ Begins a u)
      → HaveLocks (store_after tables new) (with_at machine s n)
      → Shared tables attached old here machine mail → Shared tables attached new here (with_at machine s n) (with_at mail s post)
  turned_with rows next sound undead run was locks h = record {
    tables_here = h.tables_here;
    sound = h.sound;
    shaped = h.shaped;
    sound_there = sound;
    undead = undead;
    stale = λ o a p last u comm left changes is. stale_by a u o p last (was a u is) h (commit_from o comm) left changes;
    stale_here = λ a b l u p at is_l is_u e. here_by a b l u p (was a u is_u) h at is_l e;
    stale_there = λ a b l u p at is_l is_u e. there_by a b l u p (was a u is_u) h at is_l e;
    rows_same = λ b p at none. h.rows_same b p at (λ o g. none o (going_to b p at o g)) ∙ ap (λ (r : Rows). fin.get r p) (sym rows);
    rows_left = λ o b p last at g left.
        let c = going_from b p at o g in
        h.rows_left o b p last at c.1 (sym (passes o c.0).leaving ∙ left) ∙ ap (λ (r : Rows). Some (fin.get r p)) (sym rows);
    numbers = λ b table at none. h.numbers b table at (λ o work i. none o work (inserted_to b table work at o i)) ∙ ap (λ (f : ℕ → Option ℤ). f table) (sym next);
    numbers_ahead = λ o b table work at i.
        let c = inserted_from b table work at o i in
        h.numbers_ahead o b table work at c.1 ∙ sym (behind_same (store_after tables old) (store_after tables new) o work table (tables_same tables new old) (passes o c.0).transaction next);
    locks = locks;
    run = run;
  }

  pub turned : (rows : (store_after tables new).rows ≡ (store_after tables old).rows) (next : (store_after tables new).next ≡ (store_after tables old).next)
      → IsSound (store_after tables new)
      → ((o : ℕ) → is_dead ((store_after tables new).transaction o) ≡ false)
      → IsRun tables new
      → ((a : ℕ) (u : Live) → (store_after tables new).transaction a ≡ Alive u → (v : Live) × ((store_after tables old).transaction a ≡ Alive v) × (u.stale ≡ v.stale))
      → HaveLocks (store_after tables new) (with_at machine s n)
      → Shared tables attached old here machine mail → Shared tables attached new here (with_at machine s n) (with_at mail s post)
  turned rows next sound undead run was locks h = turned_with rows next sound undead run (λ a u is. inl (was a u is)) locks h
