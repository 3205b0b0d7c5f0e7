-- What is read stays within the limits of 64 tables of 32 columns.
use Rattle.std.proofs.Common.{◌≡◌, ℕ, ◌≤◌, ◌<◌, ◌+◌, nat_lt, Bool as Truth, true, false, not, ◌&&◌, List, [], ◌∷◌, ◌++◌, length, Option, Some, None, refl, sym, ap, subst, arith, length-append, option_map}
use Rattle.std.specs.List.{All}
use Rattle.std.proofs.lemmas.Bool.{ltb-true}
use Rattle.std.proofs.lemmas.List.Elements.{All-push}
use Rattle.sql_tokens.specs.declared.mark.Mark.TheVariants as mark
use Rattle.sql_tokens.specs.declared.token.Token.{Token}
use Rattle.sql_tokens.specs.declared.token.Token.TheVariants as token
use Rattle.sql_tokens.specs.declared.word.Word.TheVariants as word
use Rattle.pg_values.specs.declared.value.Value.{Value}
use Rattle.pg_values.specs.declared.value.Value.TheVariants as value
use Rattle.schema.specs.declared.catalogue.Fill.TheVariants as fill
use Rattle.schema.specs.declared.catalogue.TableDef.{TableDef}
use Rattle.schema.specs.declared.column_type.ColumnType.{ColumnType as AnyType}
use Rattle.schema.specs.declared.open.Due.{Due}
use Rattle.schema.specs.declared.open.Due.TheVariants as due
use Rattle.schema.specs.declared.open.OpenColumn.{OpenColumn}
use Rattle.schema.specs.declared.open.OpenTable.{OpenTable}
use Rattle.schema.specs.declared.open.Place.{Place}
use Rattle.schema.specs.declared.open.Place.TheVariants.{Create, Table, TableName, Columns, ColumnName, ColumnType, Column, End}
use Rattle.schema.specs.Types.{kind_of}
use Rattle.schema.specs.Values.{number_value, truth_value, is_number, is_moment}
use Rattle.schema.specs.Open.{has_table, has_column, empty_table, bare_column, may_take_type, may_take_key, may_take_fill, with_not_null, with_key, with_column, whole_column, whole_table}
use Rattle.schema.specs.Steps.{◌>>=◌, when, create_at, table_at, table_name_at, columns_at, end_at, column_name_at, type_at, column_type_at, part_at, null_at, key_at, filled, filled_with, is_now, value_at, negated_at, open_at, close_at, column_at, beside, step_at, Runs}
use Rattle.schema.specs.Grammar.{IsWithin}
use Rattle.schema.specs.Reading.{IsRead, start}
use Rattle.schema.proofs.Running.{State, same_columns}
use Rattle.schema.proofs.Completing.{nothing, same, when_some, both_of, beside_some}

-- there is room for one table more, and the others are within their limits
pub record Room (tables : List TableDef) : Type 0 where
  pub some : length tables < 64
  pub each : All (λ (t : TableDef). length t.columns ≤ 32) tables

-- a number is awaited only where one may stand
abbrev pub Sane : OpenColumn → Due → Type 0
Sane c due.Number = is_number (kind_of c.kind) ≡ true
Sane c _ = Unit {0}

abbrev pub Bounded : List TableDef → Place → Type 0
Bounded tables Create = IsWithin tables
Bounded tables Table = Room tables
Bounded tables TableName = Room tables
Bounded tables (Columns name) = Room tables
Bounded tables (ColumnName t) = Room tables × (length t.columns ≤ 32)
Bounded tables (ColumnType t index name) = Room tables × (length t.columns < 32)
Bounded tables (Column t c d) = Room tables × (length t.columns < 32) × Sane c d
Bounded tables (End table) = Room tables × (length table.columns ≤ 32)

one_more : (t : OpenTable) (c : OpenColumn) → length t.columns < 32 → length (with_column t c).columns ≤ 32
one_more t c h =
    let e : length (t.columns ++ whole_column c ∷ []) ≡ length t.columns + 1 = length-append t.columns (whole_column c ∷ []) in
    omega arith

module _ (tables : List TableDef) where
  along : (p q : Place) → p ≡ q → Bounded tables p → Bounded tables q
  along p q e k = subst (λ (p : Place). Bounded tables p) e k

  by_create : (t : Token) (p : Place) → create_at tables t ≡ Some p → Bounded tables Create → Bounded tables p
  by_create (token.Word word.Create) p e k =
      let w = when_some (nat_lt (length tables) 64) Table p e in
      along Table p w.1 (record { some = ltb-true (length tables) 64 w.0; each = k.1 })
  by_create _ p e k = absurd (nothing e)

  by_table : (t : Token) (p : Place) → table_at t ≡ Some p → Bounded tables Table → Bounded tables p
  by_table (token.Word word.Table) p e k = along TableName p (same TableName p e) k
  by_table _ p e k = absurd (nothing e)

  by_table_name : (t : Token) (p : Place) → table_name_at tables t ≡ Some p → Bounded tables TableName → Bounded tables p
  by_table_name (token.Name n) p e k = along (Columns n.text) p (when_some (not (has_table n.text tables)) (Columns n.text) p e).1 k
  by_table_name _ p e k = absurd (nothing e)

  by_columns : (name : List ℕ) (t : Token) (p : Place) → columns_at name t ≡ Some p → Bounded tables (Columns name) → Bounded tables p
  by_columns name (token.Mark mark.Open) p e k = along (ColumnName (empty_table name)) p (same (ColumnName (empty_table name)) p e) (k, (let z : 0 ≤ 32 = omega arith in z))
  by_columns name _ p e k = absurd (nothing e)

  by_column_name : (t : OpenTable) (tok : Token) (p : Place) → column_name_at t tok ≡ Some p → Bounded tables (ColumnName t) → Bounded tables p
  by_column_name t (token.Name n) p e k =
      let w = when_some (nat_lt (length t.columns) 32 && not (has_column n.text t.columns)) (ColumnType t (length t.columns) n.text) p e in
      let b = both_of (nat_lt (length t.columns) 32) (not (has_column n.text t.columns)) w.0 in
      along (ColumnType t (length t.columns) n.text) p w.1 (k.0, ltb-true (length t.columns) 32 b.0)
  by_column_name t _ p e k = absurd (nothing e)

  by_column_type : (t : OpenTable) (index : ℕ) (name : List ℕ) (p : Place) (o : Option AnyType) → (o >>= λ a. when (may_take_type t a) (Column t (bare_column index name a) due.Part)) ≡ Some p → Bounded tables (ColumnType t index name) → Bounded tables p
  by_column_type t index name p None e k = absurd (nothing e)
  by_column_type t index name p (Some a) e k = along (Column t (bare_column index name a) due.Part) p (when_some (may_take_type t a) (Column t (bare_column index name a) due.Part) p e).1 (k.0, k.1, tt)

  -- the columns read before stay as they are
  abbrev Stays : OpenTable → Place → Type 0
  Stays t p = Room tables × (length t.columns < 32) → Bounded tables p

  in_column : (t : OpenTable) (c : OpenColumn) (d : Due) (p : Place) → Column t c d ≡ p → Sane c d → Stays t p
  in_column t c d p e s k = along (Column t c d) p e (k.0, k.1, s)

  when_column : (t : OpenTable) (c : OpenColumn) (d : Due) (b : Truth) (p : Place) → when b (Column t c d) ≡ Some p → (b ≡ true → Sane c d) → Stays t p
  when_column t c d b p e s k = let w = when_some b (Column t c d) p e in in_column t c d p w.1 (s w.0) k

  with_value : (t : OpenTable) (c : OpenColumn) (o : Option Value) (p : Place) → filled_with t c o ≡ Some p → Stays t p
  with_value t c None p e k = absurd (nothing e)
  with_value t c (Some v) p e k = along (filled t c (fill.Constant v)) p (same (filled t c (fill.Constant v)) p e) (k.0, k.1, tt)

  by_end : (t : OpenTable) (c : OpenColumn) (p : Place) (o : Option TableDef) → whole_table (with_column t c) ≡ o → option_map End o ≡ Some p → Stays t p
  by_end t c p None w e k = absurd (nothing e)
  by_end t c p (Some table) w e k = along (End table) p (same (End table) p e) (k.0, subst (λ (n : ℕ). n ≤ 32) (ap length (sym (same_columns (with_column t c) table w))) (one_more t c k.1))

  by_part : (t : OpenTable) (c : OpenColumn) (tok : Token) (p : Place) → part_at t c tok ≡ Some p → Stays t p
  by_part t c (token.Word word.Not) p e k = when_column t c due.Null (not c.not_null) p e (λ _. tt) k
  by_part t c (token.Word word.Primary) p e k = when_column t c due.Key (may_take_key t c) p e (λ _. tt) k
  by_part t c (token.Word word.Default) p e k = when_column t c due.Value (may_take_fill c) p e (λ _. tt) k
  by_part t c (token.Mark mark.Comma) p e k = along (ColumnName (with_column t c)) p (same (ColumnName (with_column t c)) p e) (k.0, one_more t c k.1)
  by_part t c (token.Mark mark.Close) p e k = by_end t c p (whole_table (with_column t c)) refl e k
  by_part t c _ p e k = absurd (nothing e)

  by_null : (t : OpenTable) (c : OpenColumn) (tok : Token) (p : Place) → null_at t c tok ≡ Some p → Stays t p
  by_null t c (token.Word word.Null) p e k = in_column t (with_not_null c) due.Part p (same (Column t (with_not_null c) due.Part) p e) tt k
  by_null t c _ p e k = absurd (nothing e)

  by_key : (t : OpenTable) (c : OpenColumn) (tok : Token) (p : Place) → key_at t c tok ≡ Some p → Stays t p
  by_key t c (token.Word word.Key) p e k = in_column t (with_key c) due.Part p (same (Column t (with_key c) due.Part) p e) tt k
  by_key t c _ p e k = absurd (nothing e)

  by_value : (t : OpenTable) (c : OpenColumn) (read : Option Value) (tok : Token) (p : Place) → value_at t c read tok ≡ Some p → Stays t p
  by_value t c read (token.Number n) p e k = with_value t c (number_value (kind_of c.kind) n) p e k
  by_value t c read (token.Str s) p e k = with_value t c read p e k
  by_value t c read (token.Mark mark.Minus) p e k = when_column t c due.Number (is_number (kind_of c.kind)) p e (λ h. h) k
  by_value t c read (token.Word word.True) p e k = with_value t c (truth_value (kind_of c.kind) true) p e k
  by_value t c read (token.Word word.False) p e k = with_value t c (truth_value (kind_of c.kind) false) p e k
  by_value t c read (token.Word word.Null) p e k = along (filled t c (fill.Constant value.Null)) p (same (filled t c (fill.Constant value.Null)) p e) (k.0, k.1, tt)
  by_value t c read (token.Word word.CurrentTimestamp) p e k = along (filled t c fill.Now) p (when_some (is_moment (kind_of c.kind)) (filled t c fill.Now) p e).1 (k.0, k.1, tt)
  by_value t c read (token.Name n) p e k = when_column t c due.Open (is_moment (kind_of c.kind) && is_now n) p e (λ _. tt) k
  by_value t c read _ p e k = absurd (nothing e)

  by_open : (t : OpenTable) (c : OpenColumn) (tok : Token) (p : Place) → open_at t c tok ≡ Some p → Stays t p
  by_open t c (token.Mark mark.Open) p e k = in_column t c due.Close p (same (Column t c due.Close) p e) tt k
  by_open t c _ p e k = absurd (nothing e)

  by_close : (t : OpenTable) (c : OpenColumn) (tok : Token) (p : Place) → close_at t c tok ≡ Some p → Stays t p
  by_close t c (token.Mark mark.Close) p e k = along (filled t c fill.Now) p (same (filled t c fill.Now) p e) (k.0, k.1, tt)
  by_close t c _ p e k = absurd (nothing e)

  by_column : (t : OpenTable) (c : OpenColumn) (d : Due) (read : Option Value) (tok : Token) (p : Place) → column_at t c d read tok ≡ Some p → Stays t p
  by_column t c due.Part read tok p e k = by_part t c tok p e k
  by_column t c due.Null read tok p e k = by_null t c tok p e k
  by_column t c due.Key read tok p e k = by_key t c tok p e k
  by_column t c due.Value read tok p e k = by_value t c read tok p e k
  by_column t c due.Number read tok p e k = with_value t c (negated_at (kind_of c.kind) tok) p e k
  by_column t c due.Open read tok p e k = by_open t c tok p e k
  by_column t c due.Close read tok p e k = by_close t c tok p e k

-- the tables with a whole one more
more : (tables : List TableDef) (table : TableDef) → Bounded tables (End table) → IsWithin (tables ++ table ∷ [])
more tables table k =
    let e : length (tables ++ table ∷ []) ≡ length tables + 1 = length-append tables (table ∷ []) in
    let h : length tables < 64 = k.0.some in
    ((let g : length (tables ++ table ∷ []) ≤ 64 = omega arith in g), All-push (λ (t : TableDef). length t.columns ≤ 32) tables table k.0.each k.1)

by_semicolon : (tables : List TableDef) (table : TableDef) (tok : Token) (m : State) → option_map (λ more. (more, Create)) (end_at tables table tok) ≡ Some m → Bounded tables (End table) → Bounded m.0 m.1
by_semicolon tables table (token.Mark mark.Semicolon) m e k = subst (λ (s : State). Bounded s.0 s.1) (same (tables ++ table ∷ [], Create) m e) (more tables table k)
by_semicolon tables table _ m e k = absurd (nothing e)

here : (tables : List TableDef) (o : Option Place) (m : State) → beside tables o ≡ Some m → ((p : Place) → o ≡ Some p → Bounded tables p) → Bounded m.0 m.1
here tables o m e k = let b = beside_some tables o m e in subst (λ (s : State). Bounded s.0 s.1) b.2 (k b.0 b.1)

kept : (tables : List TableDef) (place : Place) (read : Option Value) (tok : Token) (m : State) → step_at tables place read tok ≡ Some m → Bounded tables place → Bounded m.0 m.1
kept tables Create read tok m e k = here tables (create_at tables tok) m e (λ p f. by_create tables tok p f k)
kept tables Table read tok m e k = here tables (table_at tok) m e (λ p f. by_table tables tok p f k)
kept tables TableName read tok m e k = here tables (table_name_at tables tok) m e (λ p f. by_table_name tables tok p f k)
kept tables (Columns name) read tok m e k = here tables (columns_at name tok) m e (λ p f. by_columns tables name tok p f k)
kept tables (ColumnName t) read tok m e k = here tables (column_name_at t tok) m e (λ p f. by_column_name tables t tok p f k)
kept tables (ColumnType t index name) read tok m e k = here tables (column_type_at t index name tok) m e (λ p f. by_column_type tables t index name p (type_at tok) f k)
kept tables (Column t c d) read tok m e k = here tables (column_at t c d read tok) m e (λ p f. by_column tables t c d read tok p f (k.0, k.1))
kept tables (End table) read tok m e k = by_semicolon tables table tok m e k

pub bounded : (s : State) (ts : List Token) (to : State) → Runs s ts to → Bounded s.0 s.1 → Bounded to.0 to.1
unfolding Runs
bounded s [] to e k = subst (λ (s : State). Bounded s.0 s.1) (sym e) k
bounded s (t ∷ ts) to r k = bounded r.0 ts to r.2 (kept s.0 s.1 r.1.0 t r.0 r.1.2 k)

pub at_first : Bounded [] Create
at_first = ((let z : 0 ≤ 64 = omega arith in z), λ k d h. absurd (omega arith))

pub within : (ts : List Token) (tables : List TableDef) → IsRead ts tables → IsWithin tables
within ts tables r = bounded start ts (tables, Create) r at_first
