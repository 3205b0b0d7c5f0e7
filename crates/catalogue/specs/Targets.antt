-- The columns that an INSERT gives values, as the rules speak of them.
use Rattle.std.specs.Prelude.{ℕ}
use Rattle.schema.specs.declared.catalogue.ColumnDef.{ColumnDef}
use Rattle.catalogue.specs.declared.insert.Target.{Target}

abbrev pub target_of : Target → ℕ × ColumnDef
target_of t = (t.number, t.column.now)
