use Rattle.std.proofs.Common.{◌≤◌, length}
use Rattle.serve_base.proofs.disk.read_file.Given as goal

abbrev pub invariant-loop : goal.invariant-loop
invariant-loop g l = length l.bytes ≤ 65536
