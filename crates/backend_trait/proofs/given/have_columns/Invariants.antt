use Rattle.std.proofs.Common.{◌≡◌, take}
use Rattle.std.specs.Prelude.{true}
use Rattle.std.specs.List.{list_all}
use Rattle.backend_trait.specs.Typed.{has_columns}
use Rattle.backend_trait.proofs.given.have_columns.Given as goal

abbrev pub invariant-loop-row : goal.invariant-loop-row
invariant-loop-row l = list_all (has_columns l.columns) (take l.row-index l.rows) ≡ true
