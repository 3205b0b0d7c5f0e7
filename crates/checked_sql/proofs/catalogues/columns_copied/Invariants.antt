use Rattle.std.proofs.Common.{◌≡◌, take}
use Rattle.checked_sql.proofs.catalogues.columns_copied.Given as goal

abbrev pub invariant-loop-column : goal.invariant-loop-column
invariant-loop-column l = l.made ≡ take l.column-index l.columns
