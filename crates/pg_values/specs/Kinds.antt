-- The types of values, by their numbers in the protocol.
use Rattle.std.specs.Prelude.{ℕ}
use Rattle.pg_values.specs.declared.col_type.ColType.{ColType}
use Rattle.pg_values.specs.declared.col_type.ColType.TheVariants.{Bool, Int4, Int8, Text, Moment}

-- the number of a type
abbrev pub oid_number : ColType → ℕ
oid_number Bool = 16
oid_number Int8 = 20
oid_number Int4 = 23
oid_number Text = 25
oid_number Moment = 1184
