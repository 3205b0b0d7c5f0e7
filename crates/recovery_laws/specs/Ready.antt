-- What a store in the place of one that is not attached has to be, and what the target of an Attach has to have.
use Rattle.std.specs.Prelude.{◌≡◌, ℕ, true, false, Some, None}
use Rattle.std.specs.FinMap as fin
use Rattle.pool_base.specs.Sets.{has}
use Rattle.pool_base.specs.declared.session_id.SessionId.{SessionId}
use Rattle.pool_base.specs.declared.backend_id.BackendId.{BackendId}
use Rattle.pool_base.specs.declared.gate_call.GateCall.TheVariants.{Attach, Detach}
use Rattle.backend_trait.specs.Keys.{Place}
use Rattle.backend_trait.specs.Rows.{with_at}
use Rattle.backend_trait.specs.Store.{Absent, Pending, Store}
use Rattle.session_machine.specs.declared.machine.ReadPolicy.{ReadPolicy}
use Rattle.session_machine.specs.Rules.{new_machine}
use Rattle.snapshot_gate.specs.declared.state.GateState.{GateState}
use Rattle.snapshot_gate.specs.Function.{granted, step}
use Rattle.one_copy_model.specs.World.{World}
use Rattle.one_copy_model.specs.Tracking.{Tracked, single, joined}
use Rattle.one_copy_model.specs.Chains.{AreShaped}
use Rattle.one_copy_model.specs.Deaths.{fallen}

-- it has the tables, its rows are of them, and sessions ask and have there no more than before
pub record IsSpare (w : World) (b : ℕ) (st : Store) : Type 0 where
  pub tables : st.tables ≡ w.tables
  pub shaped : AreShaped st
  pub asks : (s : ℕ) (p : Pending) → st.pending s ≡ Some p → ((w.store b).pending s ≡ Some p) × (st.lost ≡ false → (w.store b).lost ≡ false)
  pub unasked : (s : ℕ) → (w.store b).pending s ≡ None → st.pending s ≡ None
  pub none : (s : ℕ) → (w.store b).transaction s ≡ Absent → st.transaction s ≡ Absent

-- the same moment with another store at a backend, and the deaths behind that
abbrev pub with_spare : Tracked → ℕ → Store → Tracked
with_spare t b st = record {
  world = record t.world { store = with_at t.world.store b st };
  history = fallen (record t.world { store = with_at t.world.store b st }) t.history 65;
  orders = t.orders;
  done = t.done;
}

-- the same moment with one backend more, which has each commit that was left before
abbrev pub with_backend : Tracked → BackendId → Tracked
with_backend t b = record {
  world = record t.world { gate = granted t.world.gate (Attach b) };
  history = fallen (record t.world { gate = granted t.world.gate (Attach b) }) t.history 65;
  orders = t.orders;
  done = joined t.world (Some b.number) t.done;
}

-- the same moment with one backend less, and the deaths behind that: a recovery detaches its source
abbrev pub without_backend : Tracked → BackendId → Tracked
without_backend t b = record {
  world = record t.world { gate = (step t.world.gate (Detach b)).0 };
  history = fallen (record t.world { gate = (step t.world.gate (Detach b)).0 }) t.history 65;
  orders = t.orders;
  done = t.done;
}

-- a gate that is turned to another quiet: it counts the same, and entered quiet is still
pub record IsTurned (old new : GateState) : Type 0 where
  pub attached : new.attached ≡ old.attached
  pub snaps : new.snaps ≡ old.snaps
  pub commits : new.commits ≡ old.commits
  pub live : new.live ≡ old.live
  pub still : new.quiet ≡ 3 → (new.snaps ≡ 0) × (new.live ≡ 0)

abbrev pub with_gate_of : Tracked → GateState → Tracked
with_gate_of t g = record {
  world = record t.world { gate = g };
  history = fallen (record t.world { gate = g }) t.history 65;
  orders = t.orders;
  done = t.done;
}

-- the same moment with a new session in the place of one
abbrev pub with_new_session : Tracked → SessionId → SessionId → ReadPolicy → Tracked
with_new_session t s id policy = record {
  world = record t.world { machine = with_at t.world.machine s.number (new_machine id policy) };
  history = fallen (record t.world { machine = with_at t.world.machine s.number (new_machine id policy) }) t.history 65;
  orders = t.orders;
  done = t.done;
}

-- the target has the rows of the single run and its next serial numbers, nobody asks or has a transaction there, and some other
-- backend is attached
pub record IsReady (t : Tracked) (b : ℕ) : Type 0 where
  pub source : ℕ
  pub attached : has t.world.gate.attached.bits source ≡ true
  pub rows : (p : Place) → fin.get (t.world.store b).rows p ≡ fin.get (single t).rows p
  pub numbers : (table : ℕ) → (t.world.store b).next table ≡ (single t).next table
  pub none : (s : ℕ) → (t.world.store b).transaction s ≡ Absent
  pub unasked : (s : ℕ) → (t.world.store b).pending s ≡ None
