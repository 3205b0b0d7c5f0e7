use Rattle.std.proofs.Common.{◌≡◌, ◌++◌, drop}
use Rattle.std.specs.List.{concat}
use Rattle.wire_extended.proofs.executing.joined.Given as goal

abbrev pub invariant-loop-row : goal.invariant-loop-row
invariant-loop-row l = concat l.rows ≡ l.bytes ++ concat (drop l.row-index l.rows)
