use Rattle.std.proofs.Common.{◌≡◌, length}
use Rattle.world_program.specs.First.{ArePrepared}
use Rattle.world_program.proofs.first.backends.Given as goal

abbrev pub invariant-loop : goal.invariant-loop
invariant-loop l = record {
  len : length l.all.items ≡ l.counter;
  all : ArePrepared l.tables l.all.items;
}
