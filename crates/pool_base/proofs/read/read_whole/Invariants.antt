use Rattle.std.proofs.Common.{◌≡◌, ◌≤◌, ◌-◌, length}
use Rattle.pool_base.proofs.Reading.{IsFrontOf}
use Rattle.pool_base.proofs.read.read_whole.Given as goal

abbrev pub invariant-loop-count : goal.invariant-loop-count
invariant-loop-count g l = record {
  front : IsFrontOf (g.F.Files.contents l.fn.files l.name) l.bytes;
  short : length l.bytes ≤ l.limit;
  kept : g.F.Files.contents l.files ≡ g.F.Files.contents l.fn.files;
  later : g.F.Files.fault_count l.fn.files ≤ g.F.Files.fault_count l.files;
}

abbrev pub decreases-loop-count : goal.decreases-loop-count
decreases-loop-count g l = l.limit - length l.bytes
