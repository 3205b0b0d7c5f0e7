use Rattle.std.proofs.Common.{◌≡◌, map, take}
use Rattle.std.specs.Prelude.{true}
use Rattle.std.specs.List.{list_all}
use Rattle.checked_print.specs.Ranges.{is_held_cell}
use Rattle.checked_print.specs.Statements.{spelled_cell}
use Rattle.checked_print.proofs.write.row.Given as goal

abbrev pub invariant-loop-given : goal.invariant-loop-given
invariant-loop-given l = (l.made ≡ map spelled_cell (take l.given-index l.given-items))
    × (list_all is_held_cell (take l.given-index l.given-items) ≡ true)
