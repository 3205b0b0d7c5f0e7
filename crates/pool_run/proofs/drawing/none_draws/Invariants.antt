use Rattle.std.proofs.Common.{◌↔◌, length, map}
use Rattle.pgproto.specs.Line.{line_of}
use Rattle.pool_run.specs.Drawing.{NoneDraws}
use Rattle.pool_run.proofs.drawing.none_draws.Given as goal

abbrev pub invariant-loop-rest : goal.invariant-loop-rest
invariant-loop-rest l = NoneDraws l.tables (map line_of l.rest) ↔ NoneDraws l.tables (map line_of l.lines)

abbrev pub decreases-loop-rest : goal.decreases-loop-rest
decreases-loop-rest l = length l.rest
