use Rattle.std.proofs.Common.{◌≡◌, length}
use Rattle.world_program.specs.First.{AreNew}
use Rattle.world_program.proofs.first.cores.Given as goal

abbrev pub invariant-loop-n : goal.invariant-loop-n
invariant-loop-n l = record {
  len : length l.all.items ≡ l.n;
  new : AreNew l.policy 0 l.all.items;
}
