use Rattle.std.proofs.Common.{◌≡◌, length}
use Rattle.std.specs.Prelude.{None}
use Rattle.plain_store.specs.Blanks.{AllAre}
use Rattle.world_program.proofs.first.untaken.Given as goal

abbrev pub invariant-loop : goal.invariant-loop
invariant-loop l = record {
  len : length l.all.items ≡ l.counter;
  all : AllAre None l.all.items;
}
