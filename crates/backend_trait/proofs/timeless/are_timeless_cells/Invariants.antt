use Rattle.std.proofs.Common.{◌≡◌, take}
use Rattle.std.specs.Prelude.{true}
use Rattle.std.specs.List.{list_all}
use Rattle.time_rewrite.specs.Timeless.{timeless_cell}
use Rattle.backend_trait.proofs.timeless.are_timeless_cells.Given as goal

abbrev pub invariant-loop-cell : goal.invariant-loop-cell
invariant-loop-cell l = list_all timeless_cell (take l.cell-index l.cells) ≡ true
