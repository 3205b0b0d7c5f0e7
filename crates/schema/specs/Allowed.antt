-- Which tables a schema can have: names, keys, serial columns and defaults by the rules.
use Rattle.std.specs.Prelude.{◌≡◌, ◌==◌, ◌<◌, ◌≤◌, ◌⊎◌, ℕ, Bool as Truth, true, false, List, [], ◌∷◌, ◌++◌, length, Option, Some, None, FitsSigned, IsUtf8}
use Rattle.std.specs.Int.{w32, w64}
use Rattle.pg_values.specs.declared.col_type.ColType.{ColType}
use Rattle.pg_values.specs.declared.col_type.ColType.TheVariants as kind
use Rattle.pg_values.specs.declared.value.Value.{Value}
use Rattle.pg_values.specs.declared.value.Value.TheVariants.{Null, Bool, Int4, Int8, Text, Moment}
use Rattle.pg_values.specs.Range.{IsMoment}
use Rattle.schema.specs.declared.catalogue.ColumnDef.{ColumnDef}
use Rattle.schema.specs.declared.catalogue.Fill.{Fill}
use Rattle.schema.specs.declared.catalogue.Fill.TheVariants as fill
use Rattle.schema.specs.declared.catalogue.TableDef.{TableDef}
use Rattle.schema.specs.Open.{has_table, has_column}

-- the column has numbers of its own
abbrev pub is_serial : Fill → Truth
is_serial fill.Serial = true
is_serial _ = false

-- none of the bytes is 0
abbrev pub HasNoZero : List ℕ → Type 0
HasNoZero [] = Unit {0}
HasNoZero (byte ∷ bytes) = (0 < byte) × HasNoZero bytes

-- 1 to 63 bytes, none of them 0
abbrev pub IsName : List ℕ → Type 0
IsName text = (0 < length text) × (length text ≤ 63) × HasNoZero text

-- the constant is of the type and in its range
abbrev pub IsConstantOf : ColType → Value → Type 0
IsConstantOf of Null = Unit {0}
IsConstantOf of (Bool truth) = of ≡ kind.Bool
IsConstantOf of (Int4 number) = (of ≡ kind.Int4) × FitsSigned w32 number
IsConstantOf of (Int8 number) = (of ≡ kind.Int8) × FitsSigned w64 number
IsConstantOf of (Text text) = (of ≡ kind.Text) × HasNoZero text
IsConstantOf of (Moment micros) = (of ≡ kind.Moment) × (IsMoment micros × FitsSigned w64 micros)

-- what a cell may have that an INSERT leaves out; a serial column is int4 or int8 and not null
abbrev pub IsFillOf : ColumnDef → Fill → Type 0
IsFillOf column fill.Nothing = Unit {0}
IsFillOf column fill.Serial = ((column.kind ≡ kind.Int4) ⊎ (column.kind ≡ kind.Int8)) × (column.not_null ≡ true)
IsFillOf column fill.Now = column.kind ≡ kind.Moment
IsFillOf column (fill.Constant value) = IsConstantOf column.kind value

-- a key is of int4, int8 or text
abbrev pub is_key_kind : ColType → Truth
is_key_kind kind.Bool = false
is_key_kind kind.Moment = false
is_key_kind _ = true

-- the key is not null
abbrev pub IsKeyIf : Truth → ColumnDef → Type 0
IsKeyIf true column = (is_key_kind column.kind ≡ true) × (column.not_null ≡ true)
IsKeyIf false column = Unit {0}

pub record IsColumn (is_key is_numbered : Truth) (column : ColumnDef) : Type 0 where
  pub named : IsName column.name
  pub filled : IsFillOf column column.fill
  pub numbered : is_serial column.fill ≡ is_numbered
  pub key : IsKeyIf is_key column

abbrev pub is_at : ℕ → Option ℕ → Truth
is_at number None = false
is_at number (Some other) = number == other

-- behind these columns, the columns of a table with this key and this serial column; their names are different
abbrev pub AreColumns : ℕ → Option ℕ → List ColumnDef → List ColumnDef → Type 0
AreColumns key serial before [] = Unit {0}
AreColumns key serial before (column ∷ columns) = IsColumn (length before == key) (is_at (length before) serial) column
    × (has_column column.name before ≡ false) × AreColumns key serial (before ++ column ∷ []) columns

abbrev pub IsBelow : ℕ → Option ℕ → Type 0
IsBelow count None = Unit {0}
IsBelow count (Some number) = number < count

-- behind these tables, a table of at most 32 columns that has another name; one column is its key, and one may be serial
pub record IsTable (before : List TableDef) (table : TableDef) : Type 0 where
  pub named : IsName table.name
  pub is_new : has_table table.name before ≡ false
  pub columns : AreColumns table.key table.serial [] table.columns
  pub has_key : table.key < length table.columns
  pub has_serial : IsBelow (length table.columns) table.serial
  pub few : length table.columns ≤ 32

abbrev pub AreTables : List TableDef → List TableDef → Type 0
AreTables before [] = Unit {0}
AreTables before (table ∷ tables) = IsTable before table × AreTables (before ++ table ∷ []) tables

-- a schema can have these tables: at most 64, by the rules
abbrev pub AreAllowed : List TableDef → Type 0
AreAllowed tables = (length tables ≤ 64) × AreTables [] tables
