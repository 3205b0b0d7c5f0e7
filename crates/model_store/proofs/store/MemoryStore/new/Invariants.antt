use Rattle.std.proofs.Common.{◌≡◌, length}
use Rattle.model_store.proofs.NewLaws.{AreAbsent}
use Rattle.model_store.proofs.store.MemoryStore.new.Given as goal

abbrev pub invariant-loop : goal.invariant-loop
invariant-loop l = record {
  len : length l.seats.items ≡ l.counter;
  absent : AreAbsent l.seats.items;
}
