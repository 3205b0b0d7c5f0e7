use Rattle.std.proofs.Common.{◌≡◌, take}
use Rattle.std.specs.Prelude.{true}
use Rattle.std.specs.List.{list_all}
use Rattle.checked_sql.specs.OfCatalogue.{are_cells}
use Rattle.checked_sql.proofs.write.are_rows.Given as goal

abbrev pub invariant-loop-row : goal.invariant-loop-row
invariant-loop-row l = list_all (are_cells l.kinds l.columns) (take l.row-index l.rows) ≡ true
