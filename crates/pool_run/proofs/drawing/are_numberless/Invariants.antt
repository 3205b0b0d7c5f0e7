use Rattle.std.proofs.Common.{◌≡◌, length}
use Rattle.std.specs.List.{list_all}
use Rattle.pool_run.specs.Drawing.{is_numberless}
use Rattle.pool_run.proofs.drawing.are_numberless.Given as goal

abbrev pub invariant-loop-rest : goal.invariant-loop-rest
invariant-loop-rest l = list_all is_numberless l.rest ≡ list_all is_numberless l.tables

abbrev pub decreases-loop-rest : goal.decreases-loop-rest
decreases-loop-rest l = length l.rest
