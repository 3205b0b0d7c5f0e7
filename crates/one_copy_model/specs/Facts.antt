-- What holds of all sessions together, by the parts that it reads; and all the facts of a moment.
use Rattle.std.specs.Prelude.{◌≡◌, ◌⊎◌, ℕ, ◌<◌, Bool, true, false, is_some, List, Option, Some}
use Rattle.std.specs.FinMap as fin
use Rattle.schema.specs.declared.catalogue.TableDef.{TableDef}
use Rattle.backend_trait.specs.declared.answer.Answer.{Answer}
use Rattle.backend_trait.specs.Keys.{Place}
use Rattle.backend_trait.specs.Store.{Live, Alive, Store}
use Rattle.snapshot_gate.specs.declared.state.GateState.{GateState}
use Rattle.session_machine.specs.declared.work.Class.TheVariants as classes
use Rattle.session_machine.specs.declared.work.Work.{Work}
use Rattle.session_machine.specs.declared.machine.Machine.{Machine}
use Rattle.one_copy_model.specs.declared.deed.Entry.{Entry}
use Rattle.one_copy_model.specs.SingleRun.{store_after, IsRun}
use Rattle.one_copy_model.specs.Deaths.{is_live, stage_at}
use Rattle.one_copy_model.specs.Tracking.{Told, in_commit}
use Rattle.one_copy_model.specs.Chains.{AreShaped}
use Rattle.one_copy_model.specs.Standing.{Leaving, leaving_of}
use Rattle.one_copy_model.specs.Invariant.{count_below, in_snapshot, in_transaction, IsSound, is_dead, inserted_in, numbers_behind, HaveLocks}
use Rattle.one_copy_model.specs.Own.{told_by, stand, IsIn, Own}

-- a session leaves here with a change of a place
pub record Going (tables : List TableDef) (history : List Entry) (m : Machine) (mail : ℕ → Option Answer) (o b : ℕ) (p : Place) : Type 0 where
  pub leaves : stand m mail b ≡ Leaving
  pub last : Live
  pub was : leaving_of tables o history ≡ Alive last
  pub changes : is_some (fin.get last.changes p) ≡ true

-- its serial insert has been answered here, and is live there
pub record Inserted (tables : List TableDef) (history : List Entry) (m : Machine) (mail : ℕ → Option Answer) (s b table : ℕ) (work : Work) : Type 0 where
  pub live : is_live ((store_after tables history).transaction s) ≡ true
  pub inserted : inserted_in (stage_at m.point) (told_by m mail b) ≡ Some work
  pub at : work.class ≡ classes.SerialInsert table

pub record CountedBy (gate : GateState) (machine : ℕ → Machine) : Type 0 where
  pub snaps : gate.snaps ≡ count_below (λ s. in_snapshot (machine s).session.gate) 65
  pub commits : gate.commits ≡ count_below (λ s. in_commit (machine s).session.gate) 65
  pub live : gate.live ≡ count_below (λ s. in_transaction (machine s).session.gate) 65
  pub apart : (gate.snaps ≡ 0) ⊎ (gate.commits ≡ 0)
  pub quiet : gate.quiet ≡ 3 → (gate.snaps ≡ 0) × (gate.live ≡ 0)
  pub few : gate.attached.bits < 256

pub record Shared (tables : List TableDef) (attached : ℕ) (history : List Entry) (here : ℕ → Store) (machine : ℕ → Machine) (mail : ℕ → ℕ → Option Answer) : Type 0 where
  pub tables_here : (b : ℕ) → (here b).tables ≡ tables
  pub sound : (b : ℕ) → IsIn attached b → IsSound (here b)
  pub shaped : (b : ℕ) → AreShaped (here b)
  pub sound_there : IsSound (store_after tables history)
  pub undead : (s : ℕ) → is_dead ((store_after tables history).transaction s) ≡ false
  pub stale : (o s : ℕ) (p : Place) (last u : Live) → in_commit (machine o).session.gate ≡ true → leaving_of tables o history ≡ Alive last
      → is_some (fin.get last.changes p) ≡ true → (store_after tables history).transaction s ≡ Alive u → u.stale p ≡ true
  pub stale_here : (s b : ℕ) (l u : Live) (p : Place) → IsIn attached b → (here b).transaction s ≡ Alive l → (store_after tables history).transaction s ≡ Alive u
      → u.stale p ≡ true → (l.stale p ≡ true) ⊎ ((o : ℕ) × Going tables history (machine o) (mail o) o b p)
  pub stale_there : (s b : ℕ) (l u : Live) (p : Place) → IsIn attached b → (here b).transaction s ≡ Alive l → (store_after tables history).transaction s ≡ Alive u
      → l.stale p ≡ true → u.stale p ≡ true
  pub rows_same : (b : ℕ) (p : Place) → IsIn attached b → ((o : ℕ) → ¬ (Going tables history (machine o) (mail o) o b p))
      → fin.get (here b).rows p ≡ fin.get (store_after tables history).rows p
  pub rows_left : (o b : ℕ) (p : Place) (last : Live) → IsIn attached b → Going tables history (machine o) (mail o) o b p
      → leaving_of tables o history ≡ Alive last → fin.get last.changes p ≡ Some (fin.get (store_after tables history).rows p)
  pub numbers : (b table : ℕ) → IsIn attached b → ((s : ℕ) (work : Work) → ¬ (Inserted tables history (machine s) (mail s) s b table work))
      → (here b).next table ≡ (store_after tables history).next table
  pub numbers_ahead : (s b table : ℕ) (work : Work) → IsIn attached b → Inserted tables history (machine s) (mail s) s b table work
      → (here b).next table ≡ numbers_behind (store_after tables history) s work table
  pub locks : HaveLocks (store_after tables history) machine
  pub run : IsRun tables history

-- of each session it is said whether its transaction is live in the single run
pub record Facts (tables : List TableDef) (gate : GateState) (machine : ℕ → Machine) (here : ℕ → Store) (mail : ℕ → ℕ → Option Answer) (history : List Entry)
    (orders : ℕ → Option Told) (done : ℕ → ℕ → Bool) (live : ℕ → Bool) : Type 0 where
  pub own : (s : ℕ) → Own tables gate.attached.bits history here (machine s) (mail s) (orders s) (done s) (live s) s
  pub shared : Shared tables gate.attached.bits history here machine mail
  pub counts : CountedBy gate machine
