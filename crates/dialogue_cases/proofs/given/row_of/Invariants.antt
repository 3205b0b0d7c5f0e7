use Rattle.std.proofs.Common.{◌-◌, length}
use Rattle.std.specs.Prelude.{All}
use Rattle.pg_values.specs.Range.{IsInRange}
use Rattle.dialogue_cases.proofs.given.row_of.Given as goal

abbrev pub invariant-loop-column : goal.invariant-loop-column
invariant-loop-column l = All IsInRange l.cells

abbrev pub decreases-loop-column : goal.decreases-loop-column
decreases-loop-column l = length l.columns - l.column-index
