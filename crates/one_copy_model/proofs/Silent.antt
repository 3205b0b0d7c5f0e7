-- A session goes on, and its transaction stands everywhere as before: what is of all sessions together stays.
use Rattle.std.proofs.Common.{◌≡◌, ℕ, true, List, sym, ◌∙◌, inl, inr}
use Rattle.std.specs.Prelude.{Option}
use Rattle.schema.specs.declared.catalogue.TableDef.{TableDef}
use Rattle.backend_trait.specs.declared.answer.Answer.{Answer}
use Rattle.backend_trait.specs.Keys.{Place}
use Rattle.backend_trait.specs.Rows.{with_at}
use Rattle.backend_trait.specs.Store.{Live, Alive, Store}
use Rattle.session_machine.specs.declared.work.Work.{Work}
use Rattle.session_machine.specs.declared.machine.Machine.{Machine}
use Rattle.one_copy_model.specs.declared.deed.Entry.{Entry}
use Rattle.one_copy_model.specs.SingleRun.{store_after}
use Rattle.one_copy_model.specs.Deaths.{stage_at}
use Rattle.one_copy_model.specs.Tracking.{in_commit}
use Rattle.one_copy_model.specs.Standing.{Leaving}
use Rattle.one_copy_model.specs.Invariant.{inserted_in, Inserts, HaveLocks}
use Rattle.one_copy_model.specs.Own.{told_by, stand, IsIn}
use Rattle.one_copy_model.specs.Facts.{Going, Inserted, Shared}
use Rattle.one_copy_model.proofs.Places.{each_at, each_at2}
use Rattle.one_copy_model.proofs.Locks.{locks_stay}

-- who leaves here, inserts here and commits is the same before and behind it, where a backend is attached and something lives
pub record IsSilent (tables : List TableDef) (attached : ℕ) (history : List Entry) (m n : Machine) (mail post : ℕ → Option Answer) : Type 0 where
  pub leaves : (b : ℕ) → IsIn attached b → stand m mail b ≡ Leaving → stand n post b ≡ Leaving
  pub stays : (b : ℕ) → IsIn attached b → stand n post b ≡ Leaving → stand m mail b ≡ Leaving
  pub inserts : (b : ℕ) → IsIn attached b → inserted_in (stage_at m.point) (told_by m mail b) ≡ inserted_in (stage_at n.point) (told_by n post b)
  pub commits : (a : ℕ) (u : Live) → (store_after tables history).transaction a ≡ Alive u → in_commit n.session.gate ≡ true → in_commit m.session.gate ≡ true

module _ (tables : List TableDef) (attached fewer : ℕ) (history : List Entry) (here : ℕ → Store) (machine : ℕ → Machine) (mail : ℕ → ℕ → Option Answer)
    (s : ℕ) (n : Machine) (post : ℕ → Option Answer) (less : (b : ℕ) → IsIn fewer b → IsIn attached b)
    (q : IsSilent tables fewer history (machine s) n (mail s) post) where
  to_going : (b : ℕ) (p : Place) → IsIn fewer b → (o : ℕ) → Going tables history (machine o) (mail o) o b p → Going tables history (with_at machine s n o) (with_at mail s post o) o b p
  to_going b p at = each_at2 (λ o x y. Going tables history (machine o) (mail o) o b p → Going tables history x y o b p) machine mail s n post
      (λ g. record { leaves = q.leaves b at g.leaves; last = g.last; was = g.was; changes = g.changes })
      (λ o other g. g)

  from_going : (b : ℕ) (p : Place) → IsIn fewer b → (o : ℕ) → Going tables history (with_at machine s n o) (with_at mail s post o) o b p → Going tables history (machine o) (mail o) o b p
  from_going b p at = each_at2 (λ o x y. Going tables history x y o b p → Going tables history (machine o) (mail o) o b p) machine mail s n post
      (λ g. record { leaves = q.stays b at g.leaves; last = g.last; was = g.was; changes = g.changes })
      (λ o other g. g)

  to_inserted : (b table : ℕ) (work : Work) → IsIn fewer b → (o : ℕ) → Inserted tables history (machine o) (mail o) o b table work → Inserted tables history (with_at machine s n o) (with_at mail s post o) o b table work
  to_inserted b table work at = each_at2 (λ o x y. Inserted tables history (machine o) (mail o) o b table work → Inserted tables history x y o b table work) machine mail s n post
      (λ i. record { live = i.live; inserted = sym (q.inserts b at) ∙ i.inserted; at = i.at })
      (λ o other i. i)

  from_inserted : (b table : ℕ) (work : Work) → IsIn fewer b → (o : ℕ) → Inserted tables history (with_at machine s n o) (with_at mail s post o) o b table work → Inserted tables history (machine o) (mail o) o b table work
  from_inserted b table work at = each_at2 (λ o x y. Inserted tables history x y o b table work → Inserted tables history (machine o) (mail o) o b table work) machine mail s n post
      (λ i. record { live = i.live; inserted = q.inserts b at ∙ i.inserted; at = i.at })
      (λ o other i. i)

  from_commit : (a : ℕ) (u : Live) → (store_after tables history).transaction a ≡ Alive u → (o : ℕ) → in_commit (with_at machine s n o).session.gate ≡ true → in_commit (machine o).session.gate ≡ true
  from_commit a u is = each_at (λ o x. in_commit x.session.gate ≡ true → in_commit (machine o).session.gate ≡ true) machine s n (q.commits a u is) (λ o other h. h)

  pub silent_with : HaveLocks (store_after tables history) (with_at machine s n) → Shared tables attached history here machine mail
      → Shared tables fewer history here (with_at machine s n) (with_at mail s post)
  silent_with locks h = record {
    tables_here = h.tables_here;
    sound = λ b at. h.sound b (less b at);
    shaped = h.shaped;
    sound_there = h.sound_there;
    undead = h.undead;
    stale = λ o a p last u comm was changes is. h.stale o a p last u (from_commit a u is o comm) was changes is;
    stale_here = λ a b l u p at is_l is_u e. elim (h.stale_here a b l u p (less b at) is_l is_u e) [ inl is ↦ inl is | inr o ↦ inr (o.0, to_going b p at o.0 o.1) ];
    stale_there = λ a b l u p at. h.stale_there a b l u p (less b at);
    rows_same = λ b p at none. h.rows_same b p (less b at) (λ o g. none o (to_going b p at o g));
    rows_left = λ o b p last at g. h.rows_left o b p last (less b at) (from_going b p at o g);
    numbers = λ b table at none. h.numbers b table (less b at) (λ o work i. none o work (to_inserted b table work at o i));
    numbers_ahead = λ o b table work at i. h.numbers_ahead o b table work (less b at) (from_inserted b table work at o i);
    locks = locks;
    run = h.run;
  }

-- and no serial insert begins
abbrev pub IsQuiet : List TableDef → ℕ → List Entry → Machine → Machine → (ℕ → Option Answer) → (ℕ → Option Answer) → Type 0
IsQuiet tables attached history m n mail post = IsSilent tables attached history m n mail post × ((table : ℕ) → Inserts n table → Inserts m table)

pub silent : (tables : List TableDef) → (attached fewer : ℕ) (history : List Entry) (here : ℕ → Store) (machine : ℕ → Machine) (mail : ℕ → ℕ → Option Answer)
    (s : ℕ) (n : Machine) (post : ℕ → Option Answer) → ((b : ℕ) → IsIn fewer b → IsIn attached b) → IsQuiet tables fewer history (machine s) n (mail s) post
    → Shared tables attached history here machine mail → Shared tables fewer history here (with_at machine s n) (with_at mail s post)
silent tables attached fewer history here machine mail s n post less q h =
    silent_with tables attached fewer history here machine mail s n post less q.0 (locks_stay (store_after tables history) machine s n q.1 h.locks) h
