use Rattle.std.proofs.Common.{◌≡◌, take}
use Rattle.checked_sql.proofs.catalogues.tables_copied.Given as goal

abbrev pub invariant-loop-table : goal.invariant-loop-table
invariant-loop-table l = l.made ≡ take l.table-index l.tables
