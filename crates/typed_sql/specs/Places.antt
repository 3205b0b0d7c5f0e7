-- What each place of an expression asks: which type an untyped leaf takes there, and which types may stand there.
use Rattle.std.specs.Prelude.{◌&&◌, ℤ, pos, Bool as Truth, true, false, Option, Some, None, if◌then◌else◌}
use Rattle.std.specs.Int.Signed.{le_z}
use Rattle.pg_values.specs.declared.col_type.ColType.{ColType}
use Rattle.pg_values.specs.declared.col_type.ColType.TheVariants.{Bool, Int4, Int8, Text, Moment}
use Rattle.typed_sql.specs.declared.asks.Takes.{Takes}
use Rattle.typed_sql.specs.declared.asks.Takes.TheVariants.{Any, Whole, Like}
use Rattle.typed_sql.specs.declared.asks.Asks.{Asks}

abbrev pub same_kind : ColType → ColType → Truth
same_kind Bool Bool = true
same_kind Int4 Int4 = true
same_kind Int8 Int8 = true
same_kind Text Text = true
same_kind Moment Moment = true
same_kind a b = false

-- int4 or int8
abbrev pub is_whole : ColType → Truth
is_whole Int4 = true
is_whole Int8 = true
is_whole a = false

-- one type, int4 and int8 counting as one
abbrev pub are_alike : ColType → ColType → Truth
are_alike a b = if is_whole a then is_whole b else same_kind a b

-- whether the type may stand there
abbrev pub takes : Takes → ColType → Truth
takes Any kind = true
takes Whole kind = is_whole kind
takes (Like other) kind = are_alike other kind

-- an operand of AND, OR and NOT, and a filter: bool
abbrev pub asks_bool : Asks
asks_bool = record { leaf = Bool; takes = Like Bool }

-- an operand of `||`: text
abbrev pub asks_text : Asks
asks_text = record { leaf = Text; takes = Like Text }

-- an item of a list, and the operand of IS NULL: anything, and an untyped leaf is text
abbrev pub asks_nothing : Asks
asks_nothing = record { leaf = Text; takes = Any }

-- a LIMIT: int8, where int4 may stand for it
abbrev pub asks_limit : Asks
asks_limit = record { leaf = Int8; takes = Whole }

-- a cell and a SET: the column's type, int4 and int8 standing for each other
abbrev pub asks_column : ColType → Asks
asks_column kind = record { leaf = kind; takes = Like kind }

-- the type where there is one, and else text
abbrev pub or_text : Option ColType → ColType
or_text None = Text
or_text (Some kind) = kind

-- the type where it is int4 or int8, and else int8
abbrev pub or_int8 : Option ColType → ColType
or_int8 None = Int8
or_int8 (Some kind) = if is_whole kind then kind else Int8

-- an operand of arithmetic: int4 or int8; an untyped leaf takes the other operand's type where that is one of these, and
-- else int8
abbrev pub asks_number : Option ColType → Asks
asks_number other = record { leaf = or_int8 other; takes = Whole }

-- the left operand of a comparison, and the operand of IN: anything; an untyped leaf takes the type that there is beside
-- it, and else text
abbrev pub asks_beside : Option ColType → Asks
asks_beside other = record { leaf = or_text other; takes = Any }

-- the right operand of a comparison: one type with the left one
abbrev pub asks_like : ColType → Asks
asks_like kind = record { leaf = kind; takes = Like kind }

-- an entry of IN's list: one type with the operand; an untyped leaf takes the first type that there is
abbrev pub asks_entry : Option ColType → ColType → Asks
asks_entry first kind = record { leaf = or_text first; takes = Like kind }

-- the type of what arithmetic gives: int4 of two int4, else int8
abbrev pub sum_kind : ColType → ColType → ColType
sum_kind Int4 Int4 = Int4
sum_kind a b = Int8

-- a whole number is int4 where it fits, else int8
abbrev pub number_kind : ℤ → ColType
number_kind n = if le_z (pos 0) n && le_z n (pos 2147483647) then Int4 else Int8
