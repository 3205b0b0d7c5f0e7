use Rattle.std.proofs.Common.{◌≡◌, length, map}
use Rattle.std.specs.List.{list_all}
use Rattle.pgproto.specs.Line.{line_of}
use Rattle.pool_run.specs.Ways.{is_single_line}
use Rattle.pool_run.proofs.ways.are_single.Given as goal

abbrev pub invariant-loop-rest : goal.invariant-loop-rest
invariant-loop-rest l = list_all is_single_line (map line_of l.rest) ≡ list_all is_single_line (map line_of l.lines)

abbrev pub decreases-loop-rest : goal.decreases-loop-rest
decreases-loop-rest l = length l.rest
