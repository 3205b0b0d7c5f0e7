use Rattle.std.proofs.Common.{◌≡◌, take}
use Rattle.sql_tree.proofs.copying_statement.copied_cells.Given as goal

abbrev pub invariant-loop-cell : goal.invariant-loop-cell
invariant-loop-cell l = l.copies ≡ take l.cell-index l.cell-items
