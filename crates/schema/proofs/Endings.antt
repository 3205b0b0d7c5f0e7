-- From each place that a reader comes to, some tokens lead to the end of a table, or to a "," between two of its columns.
use Rattle.std.proofs.Common.{◌≡◌, ℕ, suc, pos, neg_ℤ, ◌<◌, ◌+◌, nat_lt, Bool as Truth, true, false, not, ◌&&◌, List, [], ◌∷◌, ◌++◌, length, length-append, Option, Some, None, refl, ap, arith, codes}
use Rattle.sql_tokens.specs.declared.mark.Mark.TheVariants as mark
use Rattle.sql_tokens.specs.declared.token.Token.{Token}
use Rattle.sql_tokens.specs.declared.token.Token.TheVariants as token
use Rattle.sql_tokens.specs.declared.word.Word.TheVariants as word
use Rattle.pg_values.specs.declared.col_type.ColType.{ColType}
use Rattle.pg_values.specs.declared.col_type.ColType.TheVariants as kind
use Rattle.pg_values.specs.declared.value.Value.{Value}
use Rattle.pg_values.specs.declared.value.Value.TheVariants as value
use Rattle.schema.specs.declared.catalogue.ColumnDef.{ColumnDef}
use Rattle.schema.specs.declared.catalogue.Fill.TheVariants as fill
use Rattle.schema.specs.declared.catalogue.TableDef.{TableDef}
use Rattle.schema.specs.declared.column_type.ColumnType.TheVariants as types
use Rattle.schema.specs.declared.open.Due.{Due}
use Rattle.schema.specs.declared.open.Due.TheVariants as due
use Rattle.schema.specs.declared.open.OpenColumn.{OpenColumn}
use Rattle.schema.specs.declared.open.OpenTable.{OpenTable}
use Rattle.schema.specs.declared.open.Place.{Place}
use Rattle.schema.specs.declared.open.Place.TheVariants.{Create, Table, TableName, Columns, ColumnName, ColumnType, Column, End}
use Rattle.schema.specs.Types.{kind_of}
use Rattle.schema.specs.Values.{number_value, is_number}
use Rattle.schema.specs.Open.{has_column, empty_table, bare_column, with_not_null, with_key, with_fill, with_column, whole_column}
use Rattle.schema.specs.Steps.{when, filled, filled_with, beside, Steps, Runs}
use Rattle.schema.proofs.Running.{State, go}
use Rattle.schema.proofs.Completing.{IsStop}
use Rattle.schema.proofs.Fresh.{long, table_bytes, new_table}
use Rattle.schema.proofs.Bounds.{Sane, Bounded}

name_token : List ℕ → Token
name_token text = token.Name (record { text = text; quoted = false })

-- ---- the endings

pub record Ending (s : State) : Type 0 where
  pub ts : List Token
  pub final : State
  pub stops : IsStop final.1
  pub runs : Runs s ts final

created : (tables : List TableDef) → Ending (tables, Create)
unfolding Runs
created tables = record { ts = []; final = (tables, Create); stops = tt; runs = refl }

between : (tables : List TableDef) (t : OpenTable) → 0 < length t.columns → Ending (tables, ColumnName t)
unfolding Runs
between tables t h = record { ts = []; final = (tables, ColumnName t); stops = h; runs = refl }

-- a token that is no string behind DEFAULT leads to a place that has an ending
leads : (s m : State) (t : Token) → Steps s t m → Ending m → Ending s
leads s m t e k = record { ts = t ∷ k.ts; final = k.final; stops = k.stops; runs = go s m k.final t k.ts e k.runs }

some_columns : (t : OpenTable) (c : OpenColumn) → 0 < length (with_column t c).columns
some_columns t c =
    let e : length (t.columns ++ whole_column c ∷ []) ≡ length t.columns + 1 = length-append t.columns (whole_column c ∷ []) in
    let h : 0 < length (t.columns ++ whole_column c ∷ []) = omega arith in
    h

module _ (tables : List TableDef) where
  abbrev From : Place → Type 0
  From place = Ending (tables, place)

  on : (place next : Place) (t : Token) → Steps (tables, place) t (tables, next) → From next → From place
  on place next t e k = leads (tables, place) (tables, next) t e k

  from_end : (table : TableDef) → From (End table)
  from_end table = leads (tables, End table) (tables ++ table ∷ [], Create) (token.Mark mark.Semicolon) (None, refl, refl) (created (tables ++ table ∷ []))

  from_part : (t : OpenTable) (c : OpenColumn) → From (Column t c due.Part)
  from_part t c = on (Column t c due.Part) (ColumnName (with_column t c)) (token.Mark mark.Comma) (None, refl, refl) (between tables (with_column t c) (some_columns t c))

  bool_word : Token
  bool_word = name_token (codes "bool")

  from_type : (t : OpenTable) (number : ℕ) (name : List ℕ) → From (ColumnType t number name)
  unfolding bool_word name_token
  from_type t number name = on (ColumnType t number name) (Column t (bare_column number name types.Bool) due.Part) bool_word (None, refl, refl) (from_part t (bare_column number name types.Bool))

  named : (t : OpenTable) (columns : List ColumnDef) → t.columns ≡ columns → From (ColumnName t)
  unfolding bool_word name_token
  named t (c ∷ cs) e =
      let n : length t.columns ≡ suc (length cs) = ap length e in
      let h : 0 < length t.columns = omega arith in
      between tables t h
  named t [] e = on (ColumnName t) (ColumnType t (length t.columns) (codes "bool")) bool_word
      (None, refl, ap (λ (cs : List ColumnDef). beside tables (when (nat_lt (length cs) 32 && not (has_column (codes "bool") cs)) (ColumnType t (length t.columns) (codes "bool")))) e)
      (from_type t (length t.columns) (codes "bool"))

  from_name : (t : OpenTable) → From (ColumnName t)
  from_name t = named t t.columns refl

  from_columns : (name : List ℕ) → From (Columns name)
  from_columns name = on (Columns name) (ColumnName (empty_table name)) (token.Mark mark.Open) (None, refl, refl) (from_name (empty_table name))

  from_table_name : From TableName
  unfolding name_token
  from_table_name = on TableName (Columns (long (table_bytes tables))) (name_token (long (table_bytes tables)))
      (None, refl, ap (λ (b : Truth). beside tables (when (not b) (Columns (long (table_bytes tables))))) (new_table tables)) (from_columns (long (table_bytes tables)))

  from_table : From Table
  from_table = on Table TableName (token.Word word.Table) (None, refl, refl) from_table_name

  minus_one : (t : OpenTable) (c : OpenColumn) (v : Value) → number_value (kind_of c.kind) (neg_ℤ (pos 1)) ≡ Some v → From (Column t c due.Number)
  minus_one t c v e = on (Column t c due.Number) (filled t c (fill.Constant v)) (token.Number (pos 1)) (None, refl, ap (λ (o : Option Value). beside tables (filled_with t c o)) e) (from_part t (with_fill c (fill.Constant v)))

  is_one : (k : ColType) → is_number k ≡ true → (v : Value) × (number_value k (neg_ℤ (pos 1)) ≡ Some v)
  is_one kind.Bool e = absurd cc
  is_one kind.Int4 e = (value.Int4 (neg_ℤ (pos 1)), refl)
  is_one kind.Int8 e = (value.Int8 (neg_ℤ (pos 1)), refl)
  is_one kind.Text e = absurd cc
  is_one kind.Moment e = absurd cc

  closing : (t : OpenTable) (c : OpenColumn) → From (Column t c due.Close)
  closing t c = on (Column t c due.Close) (filled t c fill.Now) (token.Mark mark.Close) (None, refl, refl) (from_part t (with_fill c fill.Now))

  from_due : (t : OpenTable) (c : OpenColumn) (d : Due) → Sane c d → From (Column t c d)
  from_due t c due.Part s = from_part t c
  from_due t c due.Null s = on (Column t c due.Null) (Column t (with_not_null c) due.Part) (token.Word word.Null) (None, refl, refl) (from_part t (with_not_null c))
  from_due t c due.Key s = on (Column t c due.Key) (Column t (with_key c) due.Part) (token.Word word.Key) (None, refl, refl) (from_part t (with_key c))
  from_due t c due.Value s = on (Column t c due.Value) (filled t c (fill.Constant value.Null)) (token.Word word.Null) (None, refl, refl) (from_part t (with_fill c (fill.Constant value.Null)))
  from_due t c due.Number s = let o = is_one (kind_of c.kind) s in minus_one t c o.0 o.1
  from_due t c due.Open s = on (Column t c due.Open) (Column t c due.Close) (token.Mark mark.Open) (None, refl, refl) (closing t c)
  from_due t c due.Close s = closing t c

  pub ending : (place : Place) → Bounded tables place → From place
  ending Create b = created tables
  ending Table b = from_table
  ending TableName b = from_table_name
  ending (Columns name) b = from_columns name
  ending (ColumnName t) b = from_name t
  ending (ColumnType t number name) b = from_type t number name
  ending (Column t c d) b = from_due t c d b.2
  ending (End table) b = from_end table
