use Rattle.std.proofs.Common.{◌≡◌, map, take}
use Rattle.catalogue.specs.Statements.{default_cell}
use Rattle.catalogue.proofs.insert.default_cells.Given as goal

abbrev pub invariant-loop-column : goal.invariant-loop-column
invariant-loop-column l = l.cells.items ≡ map default_cell (take l.column-index l.columns)
