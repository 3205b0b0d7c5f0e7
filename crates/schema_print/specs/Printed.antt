-- The one text of a schema: a CREATE TABLE with a line of its own for each table.
use Rattle.std.specs.Prelude.{◌≡◌, ◌==◌, ◌+◌, ◌&&◌, ℕ, Bool as Truth, true, false, not, List, [], ◌∷◌, ◌++◌, codes, if◌then◌else◌}
use Rattle.std.specs.Fmt.{signed_decimal}
use Rattle.pg_values.specs.declared.col_type.ColType.{ColType}
use Rattle.pg_values.specs.declared.col_type.ColType.TheVariants as kind
use Rattle.pg_values.specs.declared.value.Value.{Value}
use Rattle.pg_values.specs.declared.value.Value.TheVariants.{Null, Bool, Int4, Int8, Text, Moment}
use Rattle.pg_values.specs.Moments.{IsPrintedMoment}
use Rattle.schema.specs.declared.catalogue.ColumnDef.{ColumnDef}
use Rattle.schema.specs.declared.catalogue.Fill.{Fill}
use Rattle.schema.specs.declared.catalogue.Fill.TheVariants as fill
use Rattle.schema.specs.declared.catalogue.TableDef.{TableDef}
use Rattle.sql_print.specs.Spelling.{spelled, name, string}
use Rattle.schema.specs.Allowed.{is_serial}

abbrev pub serial_text : ColType → List ℕ
serial_text kind.Int8 = codes "bigserial"
serial_text _ = codes "serial"

abbrev pub kind_text : ColType → List ℕ
kind_text kind.Bool = codes "bool"
kind_text kind.Int4 = codes "int4"
kind_text kind.Int8 = codes "int8"
kind_text kind.Text = codes "text"
kind_text kind.Moment = codes "timestamptz"

-- the type of a column
abbrev pub type_text : ColumnDef → List ℕ
type_text column = if is_serial column.fill then serial_text column.kind else kind_text column.kind

-- the key is PRIMARY KEY; another column that is not null is NOT NULL, unless it is serial
abbrev pub rule_text : Truth → ColumnDef → List ℕ
rule_text is_key column = if is_key then codes " PRIMARY KEY"
    else if column.not_null && not (is_serial column.fill) then codes " NOT NULL" else []

abbrev pub truth_text : Truth → List ℕ
truth_text true = codes "TRUE"
truth_text false = codes "FALSE"

-- a constant: a number, TRUE, FALSE, NULL or a string; a moment is the string of its text form
abbrev pub IsConstantText : Value → List ℕ → Type 0
IsConstantText Null text = text ≡ codes "NULL"
IsConstantText (Bool truth) text = text ≡ truth_text truth
IsConstantText (Int4 number) text = text ≡ signed_decimal number
IsConstantText (Int8 number) text = text ≡ signed_decimal number
IsConstantText (Text bytes) text = text ≡ spelled (string bytes)
IsConstantText (Moment micros) text =
    (printed : List ℕ) × IsPrintedMoment micros printed × (text ≡ spelled (string printed))

-- the DEFAULT, where there is one
abbrev pub IsFillText : Fill → List ℕ → Type 0
IsFillText fill.Nothing text = text ≡ []
IsFillText fill.Serial text = text ≡ []
IsFillText fill.Now text = text ≡ codes " DEFAULT now()"
IsFillText (fill.Constant value) text =
    (constant : List ℕ) × IsConstantText value constant × (text ≡ codes " DEFAULT " ++ constant)

-- a column: its name, its type, what it must be, and its DEFAULT
abbrev pub IsColumnText : Truth → ColumnDef → List ℕ → Type 0
IsColumnText is_key column text = (default : List ℕ) × IsFillText column.fill default
    × (text ≡ spelled (name column.name) ++ (32 ∷ (type_text column ++ (rule_text is_key column ++ default))))

-- what stands before a column of that number: nothing before the first
abbrev pub comma : ℕ → List ℕ
comma number = if number == 0 then [] else codes ", "

-- the columns from that number on, of a table whose key has this number
abbrev pub AreColumnsText : ℕ → ℕ → List ColumnDef → List ℕ → Type 0
AreColumnsText key number [] text = text ≡ []
AreColumnsText key number (column ∷ columns) text = (one others : List ℕ) × IsColumnText (number == key) column one
    × AreColumnsText key (number + 1) columns others × (text ≡ comma number ++ (one ++ others))

abbrev pub IsTableText : TableDef → List ℕ → Type 0
IsTableText table text = (columns : List ℕ) × AreColumnsText table.key 0 table.columns columns
    × (text ≡ codes "CREATE TABLE " ++ (spelled (name table.name) ++ (codes " (" ++ (columns ++ codes ");\n"))))

-- the text of the tables, one after the other
abbrev pub IsSchemaText : List TableDef → List ℕ → Type 0
IsSchemaText [] text = text ≡ []
IsSchemaText (table ∷ tables) text =
    (one others : List ℕ) × IsTableText table one × IsSchemaText tables others × (text ≡ one ++ others)

-- ---- what calls inside the crate add to a text

-- behind the old text stands one of these
abbrev pub Adds : List ℕ → List ℕ → (List ℕ → Type 0) → Type 0
Adds old new Is = (text : List ℕ) × Is text × (new ≡ old ++ text)
