-- The types that a schema names.
use Rattle.std.specs.Prelude.{◌||◌, ℕ, Bool as Truth, true, false, List, Option, Some, None, codes, bytes_eq, if◌then◌else◌}
use Rattle.pg_values.specs.declared.col_type.ColType.{ColType}
use Rattle.pg_values.specs.declared.col_type.ColType.TheVariants as kind
use Rattle.schema.specs.declared.column_type.ColumnType.{ColumnType}
use Rattle.schema.specs.declared.column_type.ColumnType.TheVariants.{Bool, Int4, Int8, Text, Moment, Serial, BigSerial}

-- the type that a name without quotes names; TIMESTAMPTZ is a word, and no name
abbrev pub type_named : List ℕ → Option ColumnType
type_named name =
    if bytes_eq name (codes "bool") || bytes_eq name (codes "boolean") then Some Bool
    else if bytes_eq name (codes "int4") || (bytes_eq name (codes "int") || bytes_eq name (codes "integer")) then Some Int4
    else if bytes_eq name (codes "int8") || bytes_eq name (codes "bigint") then Some Int8
    else if bytes_eq name (codes "text") then Some Text
    else if bytes_eq name (codes "serial") then Some Serial
    else if bytes_eq name (codes "bigserial") then Some BigSerial
    else None

-- the type of its values: serial is int4 and bigserial is int8
abbrev pub kind_of : ColumnType → ColType
kind_of Bool = kind.Bool
kind_of Int4 = kind.Int4
kind_of Serial = kind.Int4
kind_of Int8 = kind.Int8
kind_of BigSerial = kind.Int8
kind_of Text = kind.Text
kind_of Moment = kind.Moment

abbrev pub is_serial : ColumnType → Truth
is_serial Serial = true
is_serial BigSerial = true
is_serial _ = false

-- a key is of no other type than int4, int8, text, serial and bigserial
abbrev pub may_be_key : ColumnType → Truth
may_be_key Bool = false
may_be_key Moment = false
may_be_key _ = true
