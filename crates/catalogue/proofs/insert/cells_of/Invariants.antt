use Rattle.std.proofs.Common.{ℕ, suc, map, take}
use Rattle.std.specs.Prelude.{Ok, slice_get}
use Rattle.typed_sql.specs.Steps.{Walk}
use Rattle.typed_sql.specs.Meaning.{scope_of}
use Rattle.catalogue.specs.Statements.{CellAt, column_at}
use Rattle.catalogue.specs.Targets.{target_of}
use Rattle.catalogue.proofs.insert.cells_of.Given as goal

abbrev pub invariant-loop-cell : goal.invariant-loop-cell
invariant-loop-cell l =
    Walk (λ (at : ℕ) cell. CellAt (scope_of l.check.scope) (column_at (slice_get (map target_of l.given) at)) cell) (λ at cell. suc at) 0
    (take l.cell-index l.row) l.initial.known.items (Ok (l.cells, l.known.items))
