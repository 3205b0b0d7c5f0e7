use Rattle.std.proofs.Common.{◌≡◌, ◌++◌, length, drop}
use Rattle.catalogue.specs.Statements.{item_columns}
use Rattle.catalogue.proofs.select.item_columns.Given as goal

abbrev pub invariant-loop-item : goal.invariant-loop-item
invariant-loop-item l = (length l.made ≡ l.item-index)
    × (item_columns l.items l.exprs ≡ l.made ++ item_columns (drop l.item-index l.items) (drop l.item-index l.exprs))
