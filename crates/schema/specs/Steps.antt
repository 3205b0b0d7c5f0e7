-- A schema read token by token: where the reader stands, and where a token leads it.
use Rattle.std.specs.Prelude.{◌≡◌, ◌&&◌, ℕ, neg_ℤ, pos, nat_lt, Bool as Truth, true, false, not, List, [], ◌∷◌, ◌++◌, length, Option, Some, None, Result, Ok, Err, bytes_eq, codes, if◌then◌else◌, option_map}
use Rattle.sql_tokens.specs.declared.mark.Mark.TheVariants as mark
use Rattle.sql_tokens.specs.declared.token.Name.{Name}
use Rattle.sql_tokens.specs.declared.token.Token.{Token}
use Rattle.sql_tokens.specs.declared.token.Token.TheVariants as token
use Rattle.sql_tokens.specs.declared.word.Word.TheVariants as word
use Rattle.pg_values.specs.declared.col_type.ColType.{ColType}
use Rattle.pg_values.specs.declared.value.Value.{Value}
use Rattle.pg_values.specs.declared.value.Value.TheVariants as value
use Rattle.schema.specs.declared.catalogue.Fill.{Fill}
use Rattle.schema.specs.declared.catalogue.Fill.TheVariants as fill
use Rattle.schema.specs.declared.catalogue.TableDef.{TableDef}
use Rattle.schema.specs.declared.column_type.ColumnType.{ColumnType as AnyType}
use Rattle.schema.specs.declared.column_type.ColumnType.TheVariants.{Moment}
use Rattle.schema.specs.declared.fault.Stop.{Stop}
use Rattle.schema.specs.declared.fault.Stop.TheVariants.{Refused, NoMemory}
use Rattle.schema.specs.declared.open.Due.{Due}
use Rattle.schema.specs.declared.open.Due.TheVariants as due
use Rattle.schema.specs.declared.open.OpenColumn.{OpenColumn}
use Rattle.schema.specs.declared.open.OpenTable.{OpenTable}
use Rattle.schema.specs.declared.open.Place.{Place}
use Rattle.schema.specs.declared.open.Place.TheVariants.{Create, Table, TableName, Columns, ColumnName, ColumnType, Column, End}
use Rattle.schema.specs.Types.{type_named, kind_of}
use Rattle.schema.specs.Values.{number_value, truth_value, StringValue, is_number, is_moment}
use Rattle.schema.specs.Open.{has_table, has_column, empty_table, bare_column, may_take_type, may_take_key, may_take_fill, with_not_null, with_key, with_fill, with_column, whole_table}

-- What a call returned is this, or a refusal where there is none, unless memory ran out.
abbrev pub Gives : {X : Type 0} → Result X Stop → Option X → Type 0
Gives (Ok x) answer = answer ≡ Some x
Gives (Err Refused) answer = answer ≡ None
Gives (Err NoMemory) answer = Unit {0}

-- what a call returned, with the tables as it left them
abbrev pub with_tables : List TableDef → Result Place Stop → Result (List TableDef × Place) Stop
with_tables tables (Ok place) = Ok (tables, place)
with_tables tables (Err stop) = Err stop

infixl 10 ◌>>=◌
abbrev pub ◌>>=◌ : {A B : Type 0} → Option A → (A → Option B) → Option B
(Some x) >>= f = f x
None >>= f = None

-- the answer, where the test holds
abbrev pub when : {A : Type 0} → Truth → A → Option A
when test x = if test then Some x else None

-- ---- outside of columns

-- a schema has at most 64 tables
abbrev pub create_at : List TableDef → Token → Option Place
create_at tables (token.Word word.Create) = when (nat_lt (length tables) 64) Table
create_at tables _ = None

abbrev pub table_at : Token → Option Place
table_at (token.Word word.Table) = Some TableName
table_at _ = None

abbrev pub table_name_at : List TableDef → Token → Option Place
table_name_at tables (token.Name n) = when (not (has_table n.text tables)) (Columns n.text)
table_name_at tables _ = None

abbrev pub columns_at : List ℕ → Token → Option Place
columns_at name (token.Mark mark.Open) = Some (ColumnName (empty_table name))
columns_at name _ = None

abbrev pub end_at : List TableDef → TableDef → Token → Option (List TableDef)
end_at tables table (token.Mark mark.Semicolon) = Some (tables ++ table ∷ [])
end_at tables table _ = None

-- ---- a column up to its type

-- a table has at most 32 columns
abbrev pub column_name_at : OpenTable → Token → Option Place
column_name_at table (token.Name n) = when (nat_lt (length table.columns) 32 && not (has_column n.text table.columns)) (ColumnType table (length table.columns) n.text)
column_name_at table _ = None

-- the type that the token names
abbrev pub type_at : Token → Option AnyType
type_at (token.Word word.Timestamptz) = Some Moment
type_at (token.Name n) = if n.quoted then None else type_named n.text
type_at _ = None

abbrev pub column_type_at : OpenTable → ℕ → List ℕ → Token → Option Place
column_type_at table number name t = type_at t >>= λ kind. when (may_take_type table kind) (Column table (bare_column number name kind) due.Part)

-- ---- what stands behind its type

abbrev pub ended_at : OpenTable → Option Place
ended_at table = option_map End (whole_table table)

abbrev pub part_at : OpenTable → OpenColumn → Token → Option Place
part_at table column (token.Word word.Not) = when (not column.not_null) (Column table column due.Null)
part_at table column (token.Word word.Primary) = when (may_take_key table column) (Column table column due.Key)
part_at table column (token.Word word.Default) = when (may_take_fill column) (Column table column due.Value)
part_at table column (token.Mark mark.Comma) = Some (ColumnName (with_column table column))
part_at table column (token.Mark mark.Close) = ended_at (with_column table column)
part_at table column _ = None

abbrev pub null_at : OpenTable → OpenColumn → Token → Option Place
null_at table column (token.Word word.Null) = Some (Column table (with_not_null column) due.Part)
null_at table column _ = None

abbrev pub key_at : OpenTable → OpenColumn → Token → Option Place
key_at table column (token.Word word.Key) = Some (Column table (with_key column) due.Part)
key_at table column _ = None

-- the default was read
abbrev pub filled : OpenTable → OpenColumn → Fill → Place
filled table column f = Column table (with_fill column f) due.Part

abbrev pub filled_with : OpenTable → OpenColumn → Option Value → Option Place
filled_with table column answer = answer >>= λ v. Some (filled table column (fill.Constant v))

-- the name is that of the function now
abbrev pub is_now : Name → Truth
is_now n = not n.quoted && bytes_eq n.text (codes "now")

-- behind DEFAULT; a string is read as the value
abbrev pub value_at : OpenTable → OpenColumn → Option Value → Token → Option Place
value_at table column read (token.Number n) = filled_with table column (number_value (kind_of column.kind) n)
value_at table column read (token.Str s) = filled_with table column read
value_at table column read (token.Mark mark.Minus) = when (is_number (kind_of column.kind)) (Column table column due.Number)
value_at table column read (token.Word word.True) = filled_with table column (truth_value (kind_of column.kind) true)
value_at table column read (token.Word word.False) = filled_with table column (truth_value (kind_of column.kind) false)
value_at table column read (token.Word word.Null) = Some (filled table column (fill.Constant value.Null))
value_at table column read (token.Word word.CurrentTimestamp) = when (is_moment (kind_of column.kind)) (filled table column fill.Now)
value_at table column read (token.Name n) = when (is_moment (kind_of column.kind) && is_now n) (Column table column due.Open)
value_at table column read _ = None

-- behind a minus; 9223372036854775808 is the one number that stands nowhere else
abbrev pub negated_at : ColType → Token → Option Value
negated_at kind (token.Number n) = number_value kind (neg_ℤ n)
negated_at kind token.Least = number_value kind (neg_ℤ (pos 9223372036854775808))
negated_at kind _ = None

abbrev pub number_at : OpenTable → OpenColumn → Token → Option Place
number_at table column t = filled_with table column (negated_at (kind_of column.kind) t)

abbrev pub open_at : OpenTable → OpenColumn → Token → Option Place
open_at table column (token.Mark mark.Open) = Some (Column table column due.Close)
open_at table column _ = None

abbrev pub close_at : OpenTable → OpenColumn → Token → Option Place
close_at table column (token.Mark mark.Close) = Some (filled table column fill.Now)
close_at table column _ = None

abbrev pub column_at : OpenTable → OpenColumn → Due → Option Value → Token → Option Place
column_at table column due.Part read t = part_at table column t
column_at table column due.Null read t = null_at table column t
column_at table column due.Key read t = key_at table column t
column_at table column due.Value read t = value_at table column read t
column_at table column due.Number read t = number_at table column t
column_at table column due.Open read t = open_at table column t
column_at table column due.Close read t = close_at table column t

-- ---- the whole step

-- the tables as they were, and the place
abbrev pub beside : List TableDef → Option Place → Option (List TableDef × Place)
beside tables answer = option_map (λ place. (tables, place)) answer

abbrev pub step_at : List TableDef → Place → Option Value → Token → Option (List TableDef × Place)
step_at tables Create read t = beside tables (create_at tables t)
step_at tables Table read t = beside tables (table_at t)
step_at tables TableName read t = beside tables (table_name_at tables t)
step_at tables (Columns name) read t = beside tables (columns_at name t)
step_at tables (ColumnName table) read t = beside tables (column_name_at table t)
step_at tables (ColumnType table number name) read t = beside tables (column_type_at table number name t)
step_at tables (Column table column due) read t = beside tables (column_at table column due read t)
step_at tables (End table) read t = option_map (λ more. (more, Create)) (end_at tables table t)

-- what a string behind DEFAULT is read as; no other token is
abbrev pub ReadAs : Place → Token → Option Value → Type 0
ReadAs (Column table column due.Value) (token.Str s) read = StringValue (kind_of column.kind) s read
ReadAs place t read = read ≡ None

-- a token leads from the one to the other
abbrev pub Steps : List TableDef × Place → Token → List TableDef × Place → Type 0
Steps from t to = (read : Option Value) × ReadAs from.1 t read × (step_at from.0 from.1 read t ≡ Some to)

-- the tokens lead from the one to the other
unfoldable pub Runs : List TableDef × Place → List Token → List TableDef × Place → Type 0
Runs from [] to = to ≡ from
Runs from (t ∷ ts) to = (mid : List TableDef × Place) × Steps from t mid × Runs mid ts to
