use Rattle.std.proofs.Common.{◌≡◌, ◌++◌, drop}
use Rattle.catalogue.specs.Statements.{columns_from}
use Rattle.catalogue.proofs.select.all_columns.Given as goal

abbrev pub invariant-loop-column : goal.invariant-loop-column
invariant-loop-column l = (l.number ≡ l.column-index)
    × (columns_from 0 l.columns ≡ l.made ++ columns_from l.column-index (drop l.column-index l.columns))
