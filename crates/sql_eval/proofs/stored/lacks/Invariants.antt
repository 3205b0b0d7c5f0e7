use Rattle.std.proofs.Common.{◌≡◌, drop}
use Rattle.sql_eval.specs.Stored.{lacks}
use Rattle.sql_eval.proofs.stored.lacks.Given as goal

abbrev pub invariant-loop-column : goal.invariant-loop-column
invariant-loop-column l = (l.at ≡ l.column-index) × (lacks (drop l.column-index l.columns) (drop l.column-index l.cells) ≡ lacks l.columns l.cells)
