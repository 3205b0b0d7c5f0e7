-- The grammar of schemas, by productions, with the rules of tables and columns where they hold.
-- R ts x rest says: ts is a text of x, and then rest.
use Rattle.std.specs.Prelude.{◌≡◌, ◌<◌, ◌≤◌, ℕ, zero, suc, ℤ, pos, neg_ℤ, true, false, List, [], ◌∷◌, ◌++◌, length, Some, ◌⊎◌}
use Rattle.std.specs.List.{All}
use Rattle.sql_tokens.specs.declared.mark.Mark.TheVariants as mark
use Rattle.sql_tokens.specs.declared.token.Name.{Name}
use Rattle.sql_tokens.specs.declared.token.Token.{Token}
use Rattle.sql_tokens.specs.declared.token.Token.TheVariants as token
use Rattle.sql_tokens.specs.declared.word.Word.TheVariants as word
use Rattle.pg_values.specs.declared.col_type.ColType.{ColType}
use Rattle.pg_values.specs.declared.col_type.ColType.TheVariants as kind
use Rattle.pg_values.specs.declared.value.Value.{Value}
use Rattle.pg_values.specs.declared.value.Value.TheVariants as value
use Rattle.schema.specs.declared.catalogue.Fill.{Fill}
use Rattle.schema.specs.declared.catalogue.Fill.TheVariants as fill
use Rattle.schema.specs.declared.catalogue.TableDef.{TableDef}
use Rattle.schema.specs.declared.column_type.ColumnType.{ColumnType}
use Rattle.schema.specs.declared.column_type.ColumnType.TheVariants.{Moment}
use Rattle.schema.specs.declared.open.OpenColumn.{OpenColumn}
use Rattle.schema.specs.declared.open.OpenTable.{OpenTable}
use Rattle.schema.specs.Types.{type_named, kind_of}
use Rattle.schema.specs.Values.{number_value, truth_value, StringValue}
use Rattle.schema.specs.Open.{has_table, has_column, empty_table, bare_column, may_take_type, may_take_key, may_take_fill, with_not_null, with_key, with_fill, with_column, whole_table}
use Rattle.schema.specs.Steps.{is_now}

-- value = ["-"] int | string | TRUE | FALSE | NULL | now "(" ")" | CURRENT_TIMESTAMP, of this type
pub data FillOf (of : ColType) (ts : List Token) (f : Fill) (rest : List Token) : Type 0 where
  number : (n : ℤ) (v : Value) → ts ≡ token.Number n ∷ rest → number_value of n ≡ Some v → f ≡ fill.Constant v → FillOf of ts f rest
  negative : (n : ℤ) (v : Value) → ts ≡ token.Mark mark.Minus ∷ token.Number n ∷ rest → number_value of (neg_ℤ n) ≡ Some v → f ≡ fill.Constant v → FillOf of ts f rest
  least : (v : Value) → ts ≡ token.Mark mark.Minus ∷ token.Least ∷ rest → number_value of (neg_ℤ (pos 9223372036854775808)) ≡ Some v → f ≡ fill.Constant v → FillOf of ts f rest
  string : (s : List ℕ) (v : Value) → ts ≡ token.Str s ∷ rest → StringValue of s (Some v) → f ≡ fill.Constant v → FillOf of ts f rest
  truth : (v : Value) → ts ≡ token.Word word.True ∷ rest → truth_value of true ≡ Some v → f ≡ fill.Constant v → FillOf of ts f rest
  falsehood : (v : Value) → ts ≡ token.Word word.False ∷ rest → truth_value of false ≡ Some v → f ≡ fill.Constant v → FillOf of ts f rest
  null : ts ≡ token.Word word.Null ∷ rest → f ≡ fill.Constant value.Null → FillOf of ts f rest
  now : (n : Name) → ts ≡ token.Name n ∷ token.Mark mark.Open ∷ token.Mark mark.Close ∷ rest → is_now n ≡ true → of ≡ kind.Moment → f ≡ fill.Now → FillOf of ts f rest
  current : ts ≡ token.Word word.CurrentTimestamp ∷ rest → of ≡ kind.Moment → f ≡ fill.Now → FillOf of ts f rest

-- NOT NULL | PRIMARY KEY | DEFAULT value: the column with this part more, which may stand there
pub data PartOf (table : OpenTable) (column : OpenColumn) (ts : List Token) (more : OpenColumn) (rest : List Token) : Type 0 where
  not_null : ts ≡ token.Word word.Not ∷ token.Word word.Null ∷ rest → column.not_null ≡ false → more ≡ with_not_null column → PartOf table column ts more rest
  key : ts ≡ token.Word word.Primary ∷ token.Word word.Key ∷ rest → may_take_key table column ≡ true → more ≡ with_key column → PartOf table column ts more rest
  filled : (mid : List Token) (f : Fill) → ts ≡ token.Word word.Default ∷ mid → may_take_fill column ≡ true → FillOf (kind_of column.kind) mid f rest → more ≡ with_fill column f → PartOf table column ts more rest

-- so many parts, one after the other
abbrev pub PartsOf : ℕ → OpenTable → OpenColumn → List Token → OpenColumn → List Token → Type 0
PartsOf zero table column ts more rest = (ts ≡ rest) × (more ≡ column)
PartsOf (suc count) table column ts more rest = (next : OpenColumn) × (mid : List Token) × PartOf table column ts next mid × PartsOf count table next mid more rest

-- a type
abbrev pub TypeOf : List Token → ColumnType → List Token → Type 0
TypeOf ts kind rest = ((ts ≡ token.Word word.Timestamptz ∷ rest) × (kind ≡ Moment))
    ⊎ ((n : Name) × (ts ≡ token.Name n ∷ rest) × (n.quoted ≡ false) × (type_named n.text ≡ Some kind))

-- column = name type { part }: the table with this column more; its name is no other column's
pub record ColumnOf (table : OpenTable) (ts : List Token) (more : OpenTable) (rest : List Token) : Type 0 where
  pub name : Name
  pub behind_name : List Token
  pub kind : ColumnType
  pub behind_type : List Token
  pub count : ℕ
  pub column : OpenColumn
  pub named : ts ≡ token.Name name ∷ behind_name
  pub is_new : has_column name.text table.columns ≡ false
  pub typed : TypeOf behind_name kind behind_type
  pub may : may_take_type table kind ≡ true
  pub parts : PartsOf count table (bare_column (length table.columns) name.text kind) behind_type column rest
  pub made : more ≡ with_column table column

-- column {"," column}: one and so many more
abbrev pub ColumnsOf : ℕ → OpenTable → List Token → OpenTable → List Token → Type 0
ColumnsOf zero table ts more rest = ColumnOf table ts more rest
ColumnsOf (suc count) table ts more rest = (next : OpenTable) × (mid : List Token) × ColumnOf table ts next (token.Mark mark.Comma ∷ mid) × ColumnsOf count next mid more rest

-- CREATE TABLE name "(" column {"," column} ")" ";": a table with a key, whose name is no other table's
pub record TableOf (tables : List TableDef) (ts : List Token) (table : TableDef) (rest : List Token) : Type 0 where
  pub name : Name
  pub inner : List Token
  pub count : ℕ
  pub read : OpenTable
  pub begun : ts ≡ token.Word word.Create ∷ token.Word word.Table ∷ token.Name name ∷ token.Mark mark.Open ∷ inner
  pub is_new : has_table name.text tables ≡ false
  pub columns : ColumnsOf count (empty_table name.text) inner read (token.Mark mark.Close ∷ token.Mark mark.Semicolon ∷ rest)
  pub has_key : whole_table read ≡ Some table

-- tables, one after the other, behind those that were read before
abbrev pub TablesOf : List TableDef → List Token → List TableDef → List Token → Type 0
TablesOf before ts [] rest = ts ≡ rest
TablesOf before ts (table ∷ tables) rest = (mid : List Token) × TableOf before ts table mid × TablesOf (before ++ table ∷ []) mid tables rest

-- the tokens are a schema of these tables, however many there are
abbrev pub IsSchemaText : List Token → List TableDef → Type 0
IsSchemaText ts tables = TablesOf [] ts tables []

-- at most 64 tables of at most 32 columns
abbrev pub IsWithin : List TableDef → Type 0
IsWithin tables = (length tables ≤ 64) × All (λ t. length t.columns ≤ 32) tables

-- the tokens are a schema of these tables
abbrev pub IsSchema : List Token → List TableDef → Type 0
IsSchema ts tables = IsSchemaText ts tables × IsWithin tables

-- The tokens are a schema that is cut off behind a "," between two columns: whole tables, and one more up to there. It is the
-- 64th at most, has at most 32 columns so far, and may have no key yet.
pub record IsCutOff (ts : List Token) : Type 0 where
  pub tables : List TableDef
  pub name : Name
  pub inner : List Token
  pub count : ℕ
  pub table : OpenTable
  pub whole : TablesOf [] ts tables (token.Word word.Create ∷ token.Word word.Table ∷ token.Name name ∷ token.Mark mark.Open ∷ inner)
  pub is_new : has_table name.text tables ≡ false
  pub columns : ColumnsOf count (empty_table name.text) inner table (token.Mark mark.Comma ∷ [])
  pub within : IsWithin tables
  pub few_tables : length tables < 64
  pub few_columns : length table.columns ≤ 32
