use Rattle.std.proofs.Common.{◌≡◌, map, take}
use Rattle.schema.specs.declared.catalogue.ColumnDef.{ColumnDef}
use Rattle.catalogue.specs.Statements.{column_desc}
use Rattle.online_recovery.proofs.copies.described.Given as goal

abbrev pub invariant-loop-column : goal.invariant-loop-column
invariant-loop-column l = l.made ≡ map (λ (c : ColumnDef). column_desc c.name c.kind) (take l.column-index l.columns)
