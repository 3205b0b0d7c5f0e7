-- A world in which one store has marked what is crossed at it.
use Rattle.std.specs.Prelude.{ℕ}
use Rattle.backend_trait.specs.Rows.{with_at}
use Rattle.backend_trait.specs.Store.{Store}
use Rattle.one_copy_model.specs.Marks.{marked}
use Rattle.one_copy_model.specs.Tracking.{Tracked}

abbrev pub with_store : Tracked → ℕ → Store → Tracked
with_store t b x = record {
  world = record { tables = t.world.tables; gate = t.world.gate; machine = t.world.machine; store = with_at t.world.store b x; mail = t.world.mail };
  history = t.history;
  orders = t.orders;
  done = t.done;
}

abbrev pub remarked : Tracked → ℕ → Tracked
remarked t b = with_store t b (marked (t.world.store b))
