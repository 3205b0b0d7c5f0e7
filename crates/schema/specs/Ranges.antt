-- Which tables have a text: their constants are in range.
use Rattle.std.specs.Prelude.{List}
use Rattle.std.specs.List.{AllByRecursion}
use Rattle.pg_values.specs.declared.value.Value.{Value}
use Rattle.pg_values.specs.declared.value.Value.TheVariants.{Moment}
use Rattle.pg_values.specs.Range.{IsMoment}
use Rattle.schema.specs.declared.catalogue.ColumnDef.{ColumnDef}
use Rattle.schema.specs.declared.catalogue.Fill.{Fill}
use Rattle.schema.specs.declared.catalogue.Fill.TheVariants as fill
use Rattle.schema.specs.declared.catalogue.TableDef.{TableDef}

-- ---- what has a text

abbrev pub IsMomentInRange : Value → Type 0
IsMomentInRange (Moment micros) = IsMoment micros
IsMomentInRange _ = ⊥

abbrev pub IsConstantInRange : Value → Type 0
IsConstantInRange (Moment micros) = IsMoment micros
IsConstantInRange _ = Unit {0}

abbrev pub IsFillInRange : Fill → Type 0
IsFillInRange (fill.Constant value) = IsConstantInRange value
IsFillInRange _ = Unit {0}

abbrev pub AreColumnsInRange : List ColumnDef → Type 0
AreColumnsInRange columns = AllByRecursion (λ c. IsFillInRange c.fill) columns

-- each moment is in its range
abbrev pub AreInRange : List TableDef → Type 0
AreInRange tables = AllByRecursion (λ t. AreColumnsInRange t.columns) tables
