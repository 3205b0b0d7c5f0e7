-- What is of the grammar leads from where it begins to where it ends.
use Rattle.std.proofs.Common.{◌≡◌, ℕ, zero, suc, ◌≤◌, ◌<◌, ◌+◌, nat_lt, ℤ, pos, neg_ℤ, Bool as Truth, true, false, not, ◌&&◌, List, [], ◌∷◌, ◌++◌, length, Option, Some, None, refl, sym, ap, subst, ◌∙◌, inl, inr, arith, option_map, if◌then◌else◌, append_assoc, length-append}
use Rattle.std.specs.List.{All}
use Rattle.std.proofs.lemmas.Bool.{lt-ltb}
use Rattle.std.proofs.lemmas.List.{append-nil}
use Rattle.std.proofs.lemmas.List.Elements.{All-head, All-tail}
use Rattle.sql_tokens.specs.declared.mark.Mark.TheVariants as mark
use Rattle.sql_tokens.specs.declared.token.Name.{Name}
use Rattle.sql_tokens.specs.declared.token.Token.{Token}
use Rattle.sql_tokens.specs.declared.token.Token.TheVariants as token
use Rattle.sql_tokens.specs.declared.word.Word.TheVariants as word
use Rattle.pg_values.specs.declared.col_type.ColType.{ColType}
use Rattle.pg_values.specs.declared.col_type.ColType.TheVariants as kind
use Rattle.pg_values.specs.declared.value.Value.{Value}
use Rattle.pg_values.specs.declared.value.Value.TheVariants as value
use Rattle.schema.specs.declared.catalogue.Fill.{Fill}
use Rattle.schema.specs.declared.catalogue.Fill.TheVariants as fill
use Rattle.schema.specs.declared.catalogue.TableDef.{TableDef}
use Rattle.schema.specs.declared.column_type.ColumnType.{ColumnType as AnyType}
use Rattle.schema.specs.declared.open.Due.TheVariants as due
use Rattle.schema.specs.declared.open.OpenColumn.{OpenColumn}
use Rattle.schema.specs.declared.open.OpenTable.{OpenTable}
use Rattle.schema.specs.declared.open.Place.{Place}
use Rattle.schema.specs.declared.open.Place.TheVariants.{Create, Table, TableName, Columns, ColumnName, ColumnType, Column, End}
use Rattle.schema.specs.Types.{type_named, kind_of}
use Rattle.schema.specs.Values.{number_value, truth_value, is_number, is_moment}
use Rattle.schema.specs.Open.{has_table, has_column, empty_table, bare_column, may_take_type, may_take_key, may_take_fill, with_not_null, with_key, with_fill, with_column, whole_table, whole_table_with, whole_column}
use Rattle.schema.specs.Steps.{when, type_at, filled, filled_with, is_now, ReadAs, step_at, Steps, Runs, beside, ◌>>=◌}
use Rattle.schema.specs.Grammar.{FillOf, number, negative, least, string, truth, falsehood, null, now, current, PartOf, not_null, key, filled as filled_part, PartsOf, TypeOf, ColumnOf, ColumnsOf, TableOf, TablesOf}

abbrev pub State : Type 0
State = List TableDef × Place

pub go : (s m to : State) (t : Token) (ts : List Token) → Steps s t m → Runs m ts to → Runs s (t ∷ ts) to
unfolding Runs
go s m to t ts e k = (m, e, k)

-- a token that is no string leads there
pub plain : (s m : State) (t : Token) → ReadAs s.1 t None → step_at s.0 s.1 None t ≡ Some m → Steps s t m
plain s m t r e = (None, r, e)

module _ (tables : List TableDef) (to : State) where
  abbrev Goes : Place → List Token → Type 0
  Goes place ts = Runs (tables, place) ts to

  on : (place next : Place) (t : Token) (ts : List Token) → ReadAs place t None → step_at tables place None t ≡ Some (tables, next) → Goes next ts → Goes place (t ∷ ts)
  on place next t ts r e k = go (tables, place) (tables, next) to t ts (plain (tables, place) (tables, next) t r e) k

  spelled : (place : Place) (ts us : List Token) → ts ≡ us → Goes place us → Goes place ts
  spelled place ts us e k = subst (λ (x : List Token). Goes place x) (sym e) k

  -- a value of the column's type
  constant : (t : OpenTable) (c : OpenColumn) (o : Option Value) (v : Value) → o ≡ Some v → beside tables (filled_with t c o) ≡ Some (tables, filled t c (fill.Constant v))
  constant t c o v e = ap (λ (o : Option Value). beside tables (filled_with t c o)) e

  whose : (t : OpenTable) (c : OpenColumn) (f g : Fill) (ts : List Token) → f ≡ g → Goes (Column t (with_fill c f) due.Part) ts → Goes (filled t c g) ts
  whose t c f g ts e k = subst (λ (f : Fill). Goes (filled t c f) ts) e k

  is_of_number : (k : ColType) (n : ℤ) (v : Value) → number_value k n ≡ Some v → is_number k ≡ true
  is_of_number kind.Bool n v e = absurd cc
  is_of_number kind.Int4 n v e = refl
  is_of_number kind.Int8 n v e = refl
  is_of_number kind.Text n v e = absurd cc
  is_of_number kind.Moment n v e = absurd cc

  when_is : {A : Type 0} (test : Truth) (x : A) → test ≡ true → when test x ≡ Some x
  when_is test x e = ap (λ (b : Truth). when b x) e

  beside_is : (test : Truth) (p : Place) → test ≡ true → beside tables (when test p) ≡ Some (tables, p)
  beside_is test p e = ap (λ (b : Truth). beside tables (when b p)) e

  minus : (t : OpenTable) (c : OpenColumn) (n : ℤ) (v : Value) (ts : List Token) → number_value (kind_of c.kind) n ≡ Some v → Goes (Column t c due.Number) ts → Goes (Column t c due.Value) (token.Mark mark.Minus ∷ ts)
  minus t c n v ts e k = on (Column t c due.Value) (Column t c due.Number) (token.Mark mark.Minus) ts refl (beside_is (is_number (kind_of c.kind)) (Column t c due.Number) (is_of_number (kind_of c.kind) n v e)) k

  moment_is : (k : ColType) → k ≡ kind.Moment → is_moment k ≡ true
  moment_is k e = ap is_moment e

  both_true : (a b : Truth) → a ≡ true → b ≡ true → (a && b) ≡ true
  both_true a b e f = ap (λ (x : Truth). x && b) e ∙ f

  pub fill_runs : (t : OpenTable) (c : OpenColumn) (ts : List Token) (f : Fill) (rest : List Token) → FillOf (kind_of c.kind) ts f rest → Goes (Column t (with_fill c f) due.Part) rest → Goes (Column t c due.Value) ts
  fill_runs t c ts f rest (number n v e i w) k = spelled (Column t c due.Value) ts (token.Number n ∷ rest) e
      (on (Column t c due.Value) (filled t c (fill.Constant v)) (token.Number n) rest refl (constant t c (number_value (kind_of c.kind) n) v i) (whose t c f (fill.Constant v) rest w k))
  fill_runs t c ts f rest (negative n v e i w) k = spelled (Column t c due.Value) ts (token.Mark mark.Minus ∷ token.Number n ∷ rest) e
      (minus t c (neg_ℤ n) v (token.Number n ∷ rest) i
      (on (Column t c due.Number) (filled t c (fill.Constant v)) (token.Number n) rest refl (constant t c (number_value (kind_of c.kind) (neg_ℤ n)) v i) (whose t c f (fill.Constant v) rest w k)))
  fill_runs t c ts f rest (least v e i w) k = spelled (Column t c due.Value) ts (token.Mark mark.Minus ∷ token.Least ∷ rest) e
      (minus t c (neg_ℤ (pos 9223372036854775808)) v (token.Least ∷ rest) i
      (on (Column t c due.Number) (filled t c (fill.Constant v)) token.Least rest refl (constant t c (number_value (kind_of c.kind) (neg_ℤ (pos 9223372036854775808))) v i) (whose t c f (fill.Constant v) rest w k)))
  fill_runs t c ts f rest (string s v e i w) k = spelled (Column t c due.Value) ts (token.Str s ∷ rest) e
      (go (tables, Column t c due.Value) (tables, filled t c (fill.Constant v)) to (token.Str s) rest (Some v, i, refl) (whose t c f (fill.Constant v) rest w k))
  fill_runs t c ts f rest (truth v e i w) k = spelled (Column t c due.Value) ts (token.Word word.True ∷ rest) e
      (on (Column t c due.Value) (filled t c (fill.Constant v)) (token.Word word.True) rest refl (constant t c (truth_value (kind_of c.kind) true) v i) (whose t c f (fill.Constant v) rest w k))
  fill_runs t c ts f rest (falsehood v e i w) k = spelled (Column t c due.Value) ts (token.Word word.False ∷ rest) e
      (on (Column t c due.Value) (filled t c (fill.Constant v)) (token.Word word.False) rest refl (constant t c (truth_value (kind_of c.kind) false) v i) (whose t c f (fill.Constant v) rest w k))
  fill_runs t c ts f rest (null e w) k = spelled (Column t c due.Value) ts (token.Word word.Null ∷ rest) e
      (on (Column t c due.Value) (filled t c (fill.Constant value.Null)) (token.Word word.Null) rest refl refl (whose t c f (fill.Constant value.Null) rest w k))
  fill_runs t c ts f rest (now n e i m w) k = spelled (Column t c due.Value) ts (token.Name n ∷ token.Mark mark.Open ∷ token.Mark mark.Close ∷ rest) e
      (on (Column t c due.Value) (Column t c due.Open) (token.Name n) (token.Mark mark.Open ∷ token.Mark mark.Close ∷ rest) refl (beside_is (is_moment (kind_of c.kind) && is_now n) (Column t c due.Open) (both_true (is_moment (kind_of c.kind)) (is_now n) (moment_is (kind_of c.kind) m) i))
      (on (Column t c due.Open) (Column t c due.Close) (token.Mark mark.Open) (token.Mark mark.Close ∷ rest) refl refl
      (on (Column t c due.Close) (filled t c fill.Now) (token.Mark mark.Close) rest refl refl (whose t c f fill.Now rest w k))))
  fill_runs t c ts f rest (current e m w) k = spelled (Column t c due.Value) ts (token.Word word.CurrentTimestamp ∷ rest) e
      (on (Column t c due.Value) (filled t c fill.Now) (token.Word word.CurrentTimestamp) rest refl (beside_is (is_moment (kind_of c.kind)) (filled t c fill.Now) (moment_is (kind_of c.kind) m)) (whose t c f fill.Now rest w k))

  is_column : (t : OpenTable) (c d : OpenColumn) (ts : List Token) → c ≡ d → Goes (Column t c due.Part) ts → Goes (Column t d due.Part) ts
  is_column t c d ts e k = subst (λ (c : OpenColumn). Goes (Column t c due.Part) ts) e k

  pub part_runs : (t : OpenTable) (c : OpenColumn) (ts : List Token) (d : OpenColumn) (rest : List Token) → PartOf t c ts d rest → Goes (Column t d due.Part) rest → Goes (Column t c due.Part) ts
  part_runs t c ts d rest (not_null e i w) k = spelled (Column t c due.Part) ts (token.Word word.Not ∷ token.Word word.Null ∷ rest) e
      (on (Column t c due.Part) (Column t c due.Null) (token.Word word.Not) (token.Word word.Null ∷ rest) refl (beside_is (not c.not_null) (Column t c due.Null) (ap not i))
      (on (Column t c due.Null) (Column t (with_not_null c) due.Part) (token.Word word.Null) rest refl refl (is_column t d (with_not_null c) rest w k)))
  part_runs t c ts d rest (key e i w) k = spelled (Column t c due.Part) ts (token.Word word.Primary ∷ token.Word word.Key ∷ rest) e
      (on (Column t c due.Part) (Column t c due.Key) (token.Word word.Primary) (token.Word word.Key ∷ rest) refl (beside_is (may_take_key t c) (Column t c due.Key) i)
      (on (Column t c due.Key) (Column t (with_key c) due.Part) (token.Word word.Key) rest refl refl (is_column t d (with_key c) rest w k)))
  part_runs t c ts d rest (filled_part mid f e i v w) k = spelled (Column t c due.Part) ts (token.Word word.Default ∷ mid) e
      (on (Column t c due.Part) (Column t c due.Value) (token.Word word.Default) mid refl (beside_is (may_take_fill c) (Column t c due.Value) i)
      (fill_runs t c mid f rest v (is_column t d (with_fill c f) rest w k)))

  pub parts_run : (count : ℕ) (t : OpenTable) (c : OpenColumn) (ts : List Token) (d : OpenColumn) (rest : List Token) → PartsOf count t c ts d rest → Goes (Column t d due.Part) rest → Goes (Column t c due.Part) ts
  parts_run zero t c ts d rest p k = spelled (Column t c due.Part) ts rest p.0 (is_column t d c rest p.1 k)
  parts_run (suc count) t c ts d rest p k = part_runs t c ts p.0 p.1 p.2 (parts_run count t p.0 p.1 d rest p.3 k)

  type_runs : (t : OpenTable) (index : ℕ) (name : List ℕ) (ts : List Token) (a : AnyType) (rest : List Token) → TypeOf ts a rest → may_take_type t a ≡ true → Goes (Column t (bare_column index name a) due.Part) rest → Goes (ColumnType t index name) ts
  type_runs t index name ts a rest (inl (e, w)) m k = spelled (ColumnType t index name) ts (token.Word word.Timestamptz ∷ rest) e
      (on (ColumnType t index name) (Column t (bare_column index name a) due.Part) (token.Word word.Timestamptz) rest refl (typed (type_at (token.Word word.Timestamptz)) (ap (λ (a : AnyType). Some a) (sym w))) k) where
        typed : (o : Option AnyType) → o ≡ Some a → beside tables (o >>= λ a. when (may_take_type t a) (Column t (bare_column index name a) due.Part)) ≡ Some (tables, Column t (bare_column index name a) due.Part)
        typed o e = ap (λ (o : Option AnyType). beside tables (o >>= λ a. when (may_take_type t a) (Column t (bare_column index name a) due.Part))) e ∙ beside_is (may_take_type t a) (Column t (bare_column index name a) due.Part) m
  type_runs t index name ts a rest (inr (n, e, q, w)) m k = spelled (ColumnType t index name) ts (token.Name n ∷ rest) e
      (on (ColumnType t index name) (Column t (bare_column index name a) due.Part) (token.Name n) rest refl (typed (type_at (token.Name n)) (plainly n.quoted q)) k) where
        plainly : (b : Truth) → b ≡ false → (if b then None else type_named n.text) ≡ Some a
        plainly b f = ap (λ (b : Truth). if b then None else type_named n.text) f ∙ w

        typed : (o : Option AnyType) → o ≡ Some a → beside tables (o >>= λ a. when (may_take_type t a) (Column t (bare_column index name a) due.Part)) ≡ Some (tables, Column t (bare_column index name a) due.Part)
        typed o e = ap (λ (o : Option AnyType). beside tables (o >>= λ a. when (may_take_type t a) (Column t (bare_column index name a) due.Part))) e ∙ beside_is (may_take_type t a) (Column t (bare_column index name a) due.Part) m

  -- a column, where there is room for it
  column_runs : (t : OpenTable) (ts : List Token) (u : OpenTable) (rest : List Token) (c : ColumnOf t ts u rest) → nat_lt (length t.columns) 32 ≡ true → Goes (Column t c.column due.Part) rest → Goes (ColumnName t) ts
  column_runs t ts u rest c room k = spelled (ColumnName t) ts (token.Name c.name ∷ c.behind_name) c.named
      (on (ColumnName t) (ColumnType t (length t.columns) c.name.text) (token.Name c.name) c.behind_name refl
      (beside_is (nat_lt (length t.columns) 32 && not (has_column c.name.text t.columns)) (ColumnType t (length t.columns) c.name.text) (both_true (nat_lt (length t.columns) 32) (not (has_column c.name.text t.columns)) room (ap not c.is_new)))
      (type_runs t (length t.columns) c.name.text c.behind_name c.kind c.behind_type c.typed c.may
      (parts_run c.count t (bare_column (length t.columns) c.name.text c.kind) c.behind_type c.column rest c.parts k)))

room_below : (most n m : ℕ) → m ≤ most → n < m → nat_lt n most ≡ true
room_below most n m f h = lt-ltb n most (omega arith)

one_more : (t u : OpenTable) (ts rest : List Token) → ColumnOf t ts u rest → length t.columns < length u.columns
one_more t u ts rest c =
    let e : length u.columns ≡ length (t.columns ++ whole_column c.column ∷ []) = ap (λ (u : OpenTable). length u.columns) c.made in
    let k : length (t.columns ++ whole_column c.column ∷ []) ≡ length t.columns + 1 = length-append t.columns (whole_column c.column ∷ []) in
    omega arith

-- the columns of a whole table are those that were read
pub same_columns : (t : OpenTable) (table : TableDef) → whole_table t ≡ Some table → table.columns ≡ t.columns
same_columns t table e = by t.key e where
  by : (o : Option ℕ) → whole_table_with t o ≡ Some table → table.columns ≡ t.columns
  by None e = absurd cc
  by (Some k) e =
      let d : table ≡ record { name = t.name; columns = t.columns; key = k; serial = t.serial } = cc in
      ap (λ (x : TableDef). x.columns) d

length_of : (before : List TableDef) (table : TableDef) (tables : List TableDef) → length before + suc (length tables) ≡ length (before ++ table ∷ []) + length tables
length_of before table tables = let e : length (before ++ table ∷ []) ≡ length before + 1 = length-append before (table ∷ []) in omega arith

-- each column that is read is one more
pub counted : (count : ℕ) (t u : OpenTable) (ts rest : List Token) → ColumnsOf count t ts u rest → length t.columns < length u.columns
counted zero t u ts rest c = one_more t u ts rest c
counted (suc count) t u ts rest c =
    let a : length t.columns < length c.0.columns = one_more t c.0 ts (token.Mark mark.Comma ∷ c.1) c.2 in
    let b : length c.0.columns < length u.columns = counted count c.0 u c.1 rest c.3 in
    omega arith

module _ (tables : List TableDef) (to : State) where
  abbrev Goes2 : Place → List Token → Type 0
  Goes2 place ts = Runs (tables, place) ts to

  next_column : (t u : OpenTable) (c : OpenColumn) (rest : List Token) → u ≡ with_column t c → Goes2 (ColumnName u) rest → Goes2 (Column t c due.Part) (token.Mark mark.Comma ∷ rest)
  next_column t u c rest e k = on tables to (Column t c due.Part) (ColumnName (with_column t c)) (token.Mark mark.Comma) rest refl refl
      (subst (λ (u : OpenTable). Goes2 (ColumnName u) rest) e k)

  last_column : (t u : OpenTable) (c : OpenColumn) (table : TableDef) (rest : List Token) → u ≡ with_column t c → whole_table u ≡ Some table → Goes2 (End table) rest → Goes2 (Column t c due.Part) (token.Mark mark.Close ∷ rest)
  last_column t u c table rest e w k = on tables to (Column t c due.Part) (End table) (token.Mark mark.Close) rest refl
      (ap (λ (o : Option TableDef). beside tables (option_map End o)) (ap whole_table (sym e) ∙ w)) k

  -- columns, and what the last of them leads to
  pub columns_run : (count : ℕ) (t u : OpenTable) (ts rest : List Token) → ColumnsOf count t ts u rest → length u.columns ≤ 32 → ((before : OpenTable) (c : OpenColumn) → u ≡ with_column before c → Goes2 (Column before c due.Part) rest) → Goes2 (ColumnName t) ts
  columns_run zero t u ts rest c f k = column_runs tables to t ts u rest c (room_below 32 (length t.columns) (length u.columns) f (counted zero t u ts rest c)) (k t c.column c.made)
  columns_run (suc count) t u ts rest c f k = column_runs tables to t ts c.0 (token.Mark mark.Comma ∷ c.1) c.2 (room_below 32 (length t.columns) (length u.columns) f (counted (suc count) t u ts rest c))
      (next_column t c.0 (c.2).column c.1 (c.2).made (columns_run count c.0 u c.1 rest c.3 f k))

  -- the head of a table
  head_runs : (name : Name) (inner ts : List Token) → ts ≡ token.Word word.Create ∷ token.Word word.Table ∷ token.Name name ∷ token.Mark mark.Open ∷ inner → has_table name.text tables ≡ false → nat_lt (length tables) 64 ≡ true → Goes2 (ColumnName (empty_table name.text)) inner → Goes2 Create ts
  head_runs name inner ts e new room k = spelled tables to Create ts (token.Word word.Create ∷ token.Word word.Table ∷ token.Name name ∷ token.Mark mark.Open ∷ inner) e
      (on tables to Create Table (token.Word word.Create) (token.Word word.Table ∷ token.Name name ∷ token.Mark mark.Open ∷ inner) refl (beside_is tables to (nat_lt (length tables) 64) Table room)
      (on tables to Table TableName (token.Word word.Table) (token.Name name ∷ token.Mark mark.Open ∷ inner) refl refl
      (on tables to TableName (Columns name.text) (token.Name name) (token.Mark mark.Open ∷ inner) refl (beside_is tables to (not (has_table name.text tables)) (Columns name.text) (ap not new))
      (on tables to (Columns name.text) (ColumnName (empty_table name.text)) (token.Mark mark.Open) inner refl refl k))))

  pub table_runs : (ts : List Token) (table : TableDef) (rest : List Token) → TableOf tables ts table rest → nat_lt (length tables) 64 ≡ true → length table.columns ≤ 32 → Runs (tables ++ table ∷ [], Create) rest to → Goes2 Create ts
  table_runs ts table rest c room f k = head_runs c.name c.inner ts c.begun c.is_new room
      (columns_run c.count (empty_table c.name.text) c.read c.inner (token.Mark mark.Close ∷ token.Mark mark.Semicolon ∷ rest) c.columns
      (subst (λ (n : ℕ). n ≤ 32) (ap length (same_columns c.read table c.has_key)) f)
      (λ before d e. last_column before c.read d table (token.Mark mark.Semicolon ∷ rest) e c.has_key
      (go (tables, End table) (tables ++ table ∷ [], Create) to (token.Mark mark.Semicolon) rest (None, refl, refl) k)))

-- a table up to the comma behind a column
pub part_of_table_runs : (tables : List TableDef) (name : Name) (inner ts : List Token) (count : ℕ) (t : OpenTable) → ts ≡ token.Word word.Create ∷ token.Word word.Table ∷ token.Name name ∷ token.Mark mark.Open ∷ inner → has_table name.text tables ≡ false → ColumnsOf count (empty_table name.text) inner t (token.Mark mark.Comma ∷ []) → nat_lt (length tables) 64 ≡ true → length t.columns ≤ 32 → Runs (tables, Create) ts (tables, ColumnName t)
unfolding Runs
part_of_table_runs tables name inner ts count t e new columns room f =
    head_runs tables (tables, ColumnName t) name inner ts e new room
    (columns_run tables (tables, ColumnName t) count (empty_table name.text) t inner (token.Mark mark.Comma ∷ []) columns f
    (λ before c m. next_column tables (tables, ColumnName t) before t c [] m refl))

pub tables_run : (before tables : List TableDef) (ts rest : List Token) (to : State) → TablesOf before ts tables rest → length before + length tables ≤ 64 → All (λ t. length t.columns ≤ 32) tables → Runs (before ++ tables, Create) rest to → Runs (before, Create) ts to
tables_run before [] ts rest to e f a k = subst (λ (x : List Token). Runs (before, Create) x to) (sym e) (subst (λ (x : List TableDef). Runs (x, Create) rest to) (append-nil before) k)
tables_run before (table ∷ tables) ts rest to p f a k =
    table_runs before to ts table p.0 p.1 (room_below 64 (length before) (length before + suc (length tables)) f (omega arith)) (All-head (λ (t : TableDef). length t.columns ≤ 32) table tables a)
    (tables_run (before ++ table ∷ []) tables p.0 rest to p.2 (subst (λ (n : ℕ). n ≤ 64) (length_of before table tables) f) (All-tail (λ (t : TableDef). length t.columns ≤ 32) table tables a)
    (subst (λ (x : List TableDef). Runs (x, Create) rest to) (sym (append_assoc before (table ∷ []) tables)) k))
