use Rattle.std.proofs.Common.{◌≡◌, map, take}
use Rattle.std.specs.Prelude.{true}
use Rattle.std.specs.List.{list_all}
use Rattle.checked_print.specs.Ranges.{is_held_cell}
use Rattle.checked_print.specs.Statements.{spelled_cell}
use Rattle.checked_print.proofs.write.rows.Given as goal

abbrev pub invariant-loop-cells : goal.invariant-loop-cells
invariant-loop-cells l = (l.made ≡ map (map spelled_cell) (take l.cells-index l.cells-items))
    × (list_all (list_all is_held_cell) (take l.cells-index l.cells-items) ≡ true)
