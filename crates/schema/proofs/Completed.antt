-- What begins a schema can be completed to one, if the limits are left aside.
use Rattle.std.proofs.Common.{◌≡◌, ℕ, zero, suc, false, List, [], ◌∷◌, ◌++◌, length, Option, Some, None, inl, inr, refl, sym, ap, subst, codes, append_assoc}
use Rattle.std.proofs.lemmas.List.{append-nil}
use Rattle.sql_tokens.specs.declared.mark.Mark.TheVariants as mark
use Rattle.sql_tokens.specs.declared.token.Name.{Name}
use Rattle.sql_tokens.specs.declared.token.Token.{Token}
use Rattle.sql_tokens.specs.declared.token.Token.TheVariants as token
use Rattle.sql_tokens.specs.declared.word.Word.TheVariants as word
use Rattle.pg_values.specs.declared.col_type.ColType.{ColType}
use Rattle.schema.specs.declared.catalogue.Fill.{Fill}
use Rattle.schema.specs.declared.catalogue.TableDef.{TableDef}
use Rattle.schema.specs.declared.column_type.ColumnType.{ColumnType}
use Rattle.schema.specs.declared.column_type.ColumnType.TheVariants as types
use Rattle.schema.specs.declared.open.OpenColumn.{OpenColumn}
use Rattle.schema.specs.declared.open.OpenTable.{OpenTable}
use Rattle.schema.specs.Types.{kind_of}
use Rattle.schema.specs.Open.{empty_table, bare_column, may_take_key, with_key, with_column, whole_table, whole_table_with}
use Rattle.schema.specs.Grammar.{FillOf, number, negative, least, string, truth, falsehood, null, now, current, PartOf, not_null, key, filled, PartsOf, TypeOf, ColumnOf, ColumnsOf, TableOf, TablesOf, IsSchemaText, IsCutOff}
use Rattle.schema.specs.Reading.{IsSchemaSoFar, Begins}
use Rattle.schema.proofs.Fresh.{long, column_bytes, new_column}

abbrev pub CanBeCompleted : List Token → Type 0
CanBeCompleted ts = (more : List Token) × (tables : List TableDef) × IsSchemaText (ts ++ more) tables

-- ---- a text of something and then of a rest is so with more behind the rest

module _ (more : List Token) where
  over : (ts us : List Token) → ts ≡ us → ts ++ more ≡ us ++ more
  over ts us e = ap (λ (x : List Token). x ++ more) e

  fill_over : (of : ColType) (ts : List Token) (f : Fill) (rest : List Token) → FillOf of ts f rest → FillOf of (ts ++ more) f (rest ++ more)
  fill_over of ts f rest (number n v e i w) = number n v (over ts (token.Number n ∷ rest) e) i w
  fill_over of ts f rest (negative n v e i w) = negative n v (over ts (token.Mark mark.Minus ∷ token.Number n ∷ rest) e) i w
  fill_over of ts f rest (least v e i w) = least v (over ts (token.Mark mark.Minus ∷ token.Least ∷ rest) e) i w
  fill_over of ts f rest (string s v e i w) = string s v (over ts (token.Str s ∷ rest) e) i w
  fill_over of ts f rest (truth v e i w) = truth v (over ts (token.Word word.True ∷ rest) e) i w
  fill_over of ts f rest (falsehood v e i w) = falsehood v (over ts (token.Word word.False ∷ rest) e) i w
  fill_over of ts f rest (null e w) = null (over ts (token.Word word.Null ∷ rest) e) w
  fill_over of ts f rest (now n e i m w) = now n (over ts (token.Name n ∷ token.Mark mark.Open ∷ token.Mark mark.Close ∷ rest) e) i m w
  fill_over of ts f rest (current e m w) = current (over ts (token.Word word.CurrentTimestamp ∷ rest) e) m w

  part_over : (t : OpenTable) (c : OpenColumn) (ts : List Token) (d : OpenColumn) (rest : List Token) → PartOf t c ts d rest → PartOf t c (ts ++ more) d (rest ++ more)
  part_over t c ts d rest (not_null e i w) = not_null (over ts (token.Word word.Not ∷ token.Word word.Null ∷ rest) e) i w
  part_over t c ts d rest (key e i w) = key (over ts (token.Word word.Primary ∷ token.Word word.Key ∷ rest) e) i w
  part_over t c ts d rest (filled mid f e i v w) = filled (mid ++ more) f (over ts (token.Word word.Default ∷ mid) e) i (fill_over (kind_of c.kind) mid f rest v) w

  parts_over : (count : ℕ) (t : OpenTable) (c : OpenColumn) (ts : List Token) (d : OpenColumn) (rest : List Token) → PartsOf count t c ts d rest → PartsOf count t c (ts ++ more) d (rest ++ more)
  parts_over zero t c ts d rest p = (over ts rest p.0, p.1)
  parts_over (suc count) t c ts d rest p = (p.0, p.1 ++ more, part_over t c ts p.0 p.1 p.2, parts_over count t p.0 p.1 d rest p.3)

  type_over : (ts : List Token) (a : ColumnType) (rest : List Token) → TypeOf ts a rest → TypeOf (ts ++ more) a (rest ++ more)
  type_over ts a rest (inl (e, w)) = inl (over ts (token.Word word.Timestamptz ∷ rest) e, w)
  type_over ts a rest (inr (n, e, q, w)) = inr (n, over ts (token.Name n ∷ rest) e, q, w)

  column_over : (t : OpenTable) (ts : List Token) (u : OpenTable) (rest : List Token) → ColumnOf t ts u rest → ColumnOf t (ts ++ more) u (rest ++ more)
  column_over t ts u rest c = record {
    name = c.name;
    behind_name = c.behind_name ++ more;
    kind = c.kind;
    behind_type = c.behind_type ++ more;
    count = c.count;
    column = c.column;
    named = over ts (token.Name c.name ∷ c.behind_name) c.named;
    is_new = c.is_new;
    typed = type_over c.behind_name c.kind c.behind_type c.typed;
    may = c.may;
    parts = parts_over c.count t (bare_column (length t.columns) c.name.text c.kind) c.behind_type c.column rest c.parts;
    made = c.made;
  }

  columns_over : (count : ℕ) (t : OpenTable) (ts : List Token) (u : OpenTable) (rest : List Token) → ColumnsOf count t ts u rest → ColumnsOf count t (ts ++ more) u (rest ++ more)
  columns_over zero t ts u rest c = column_over t ts u rest c
  columns_over (suc count) t ts u rest c = (c.0, c.1 ++ more, column_over t ts c.0 (token.Mark mark.Comma ∷ c.1) c.2, columns_over count c.0 c.1 u rest c.3)

  table_over : (tables : List TableDef) (ts : List Token) (table : TableDef) (rest : List Token) → TableOf tables ts table rest → TableOf tables (ts ++ more) table (rest ++ more)
  table_over tables ts table rest c = record {
    name = c.name;
    inner = c.inner ++ more;
    count = c.count;
    read = c.read;
    begun = over ts (token.Word word.Create ∷ token.Word word.Table ∷ token.Name c.name ∷ token.Mark mark.Open ∷ c.inner) c.begun;
    is_new = c.is_new;
    columns = columns_over c.count (empty_table c.name.text) c.inner c.read (token.Mark mark.Close ∷ token.Mark mark.Semicolon ∷ rest) c.columns;
    has_key = c.has_key;
  }

  tables_over : (before : List TableDef) (ts : List Token) (tables : List TableDef) (rest : List Token) → TablesOf before ts tables rest → TablesOf before (ts ++ more) tables (rest ++ more)
  tables_over before ts [] rest e = over ts rest e
  tables_over before ts (table ∷ tables) rest p = (p.0 ++ more, table_over before ts table p.0 p.1, tables_over (before ++ table ∷ []) p.0 tables rest p.2)

-- ---- one more column, and one more table

one_more_column : (count : ℕ) (t u v : OpenTable) (ts mid rest : List Token) → ColumnsOf count t ts u (token.Mark mark.Comma ∷ mid) → ColumnOf u mid v rest → ColumnsOf (suc count) t ts v rest
one_more_column zero t u v ts mid rest c d = (u, mid, c, d)
one_more_column (suc count) t u v ts mid rest c d = (c.0, c.1, c.2, one_more_column count c.0 u v c.1 mid rest c.3 d)

one_more_table : (before tables : List TableDef) (table : TableDef) (ts mid rest : List Token) → TablesOf before ts tables mid → TableOf (before ++ tables) mid table rest → TablesOf before ts (tables ++ table ∷ []) rest
one_more_table before [] table ts mid rest e d =
    (rest, subst (λ (x : List Token). TableOf before x table rest) (sym e) (subst (λ (x : List TableDef). TableOf x mid table rest) (append-nil before) d), refl)
one_more_table before (x ∷ xs) table ts mid rest p d =
    (p.0, p.1, one_more_table (before ++ x ∷ []) xs table p.0 mid rest p.2 (subst (λ (b : List TableDef). TableOf b mid table rest) (sym (append_assoc before (x ∷ []) xs)) d))

-- ---- the last column

abbrev closing : List Token
closing = token.Mark mark.Close ∷ token.Mark mark.Semicolon ∷ []

record Closed (u : OpenTable) : Type 0 where
  pub ts : List Token
  pub read : OpenTable
  pub table : TableDef
  pub column : ColumnOf u ts read closing
  pub has_key : whole_table read ≡ Some table

abbrev plain : List ℕ → Name
plain text = record { text = text; quoted = false }

abbrev fresh : OpenTable → List ℕ
fresh u = long (column_bytes u.columns)

abbrev made : OpenTable → ℕ → TableDef
made t k = record { name = t.name; columns = t.columns; key = k; serial = t.serial }

abbrev bare : OpenTable → ColumnType → OpenColumn
bare u kind = bare_column (length u.columns) (fresh u) kind

-- a column that is the key, where there is none
last_column : (u : OpenTable) (k : Option ℕ) → u.key ≡ k → Closed u
last_column u None e = record {
  ts = token.Name (plain (fresh u)) ∷ token.Name (plain (codes "int4")) ∷ token.Word word.Primary ∷ token.Word word.Key ∷ closing;
  read = with_column u (with_key (bare u types.Int4));
  table = made (with_column u (with_key (bare u types.Int4))) (length u.columns);
  column = record {
    name = plain (fresh u);
    behind_name = token.Name (plain (codes "int4")) ∷ token.Word word.Primary ∷ token.Word word.Key ∷ closing;
    kind = types.Int4;
    behind_type = token.Word word.Primary ∷ token.Word word.Key ∷ closing;
    count = suc zero;
    column = with_key (bare u types.Int4);
    named = refl;
    is_new = new_column u.columns;
    typed = inr (plain (codes "int4"), refl, refl, refl);
    may = refl;
    parts = (with_key (bare u types.Int4), closing, key refl (ap (λ (k : Option ℕ). may_take_key (record u { key = k }) (bare u types.Int4)) e) refl, (refl, refl));
    made = refl;
  };
  has_key = refl;
}
last_column u (Some k) e = record {
  ts = token.Name (plain (fresh u)) ∷ token.Name (plain (codes "bool")) ∷ closing;
  read = with_column u (bare u types.Bool);
  table = made (with_column u (bare u types.Bool)) k;
  column = record {
    name = plain (fresh u);
    behind_name = token.Name (plain (codes "bool")) ∷ closing;
    kind = types.Bool;
    behind_type = closing;
    count = zero;
    column = bare u types.Bool;
    named = refl;
    is_new = new_column u.columns;
    typed = inr (plain (codes "bool"), refl, refl, refl);
    may = refl;
    parts = (refl, refl);
    made = refl;
  };
  has_key = ap (λ (o : Option ℕ). whole_table_with (with_column u (bare u types.Bool)) o) e;
}

-- ---- the whole

cut_off : (ts : List Token) → IsCutOff ts → CanBeCompleted ts
cut_off ts c =
    let last : Closed c.table = last_column c.table c.table.key refl in
    let head : List Token = token.Word word.Create ∷ token.Word word.Table ∷ token.Name c.name ∷ token.Mark mark.Open ∷ c.inner in (
      last.ts,
      c.tables ++ last.table ∷ [],
      one_more_table [] c.tables last.table (ts ++ last.ts) (head ++ last.ts) [] (tables_over last.ts [] ts c.tables head c.whole) (record {
        name = c.name;
        inner = c.inner ++ last.ts;
        count = suc c.count;
        read = last.read;
        begun = refl;
        is_new = c.is_new;
        columns = one_more_column c.count (empty_table c.name.text) c.table last.read (c.inner ++ last.ts) last.ts closing (columns_over last.ts c.count (empty_table c.name.text) c.inner c.table (token.Mark mark.Comma ∷ []) c.columns) last.column;
        has_key = last.has_key;
      }),
    )

so_far : (ts more : List Token) → IsSchemaSoFar (ts ++ more) → CanBeCompleted ts
so_far ts more (inl s) = (more, s.0, s.1.0)
so_far ts more (inr c) = let k = cut_off (ts ++ more) c in (more ++ k.0, k.1, subst (λ (x : List Token). IsSchemaText x k.1) (append_assoc ts more k.0) k.2)

pub completed : (ts : List Token) → Begins ts → CanBeCompleted ts
completed ts b = so_far ts b.0 b.1
