use Rattle.std.proofs.Common.{◌≡◌, take}
use Rattle.std.specs.Prelude.{true}
use Rattle.std.specs.List.{list_all}
use Rattle.time_rewrite.specs.Timeless.{timeless_cell}
use Rattle.backend_trait.proofs.timeless.are_timeless_rows.Given as goal

abbrev pub invariant-loop-row : goal.invariant-loop-row
invariant-loop-row l = list_all (list_all timeless_cell) (take l.row-index l.rows) ≡ true
