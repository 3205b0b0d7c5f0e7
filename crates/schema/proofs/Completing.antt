-- What leads from where a reader stands to the end of a schema, or to a "," between two columns, is what the grammar has there.
use Rattle.std.proofs.Common.{◌≡◌, ℕ, zero, suc, nat_lt, Bool as Truth, true, false, not, ◌&&◌, List, [], ◌∷◌, ◌++◌, length, Option, Some, None, refl, sym, ap, subst, ◌∙◌, inl, inr, ◌<◌, arith, option_map, append_assoc, if◌then◌else◌}
use Rattle.std.proofs.lemmas.List.{append-nil}
use Rattle.sql_tokens.specs.declared.mark.Mark.TheVariants as mark
use Rattle.sql_tokens.specs.declared.token.Name.{Name}
use Rattle.sql_tokens.specs.declared.token.Token.{Token}
use Rattle.sql_tokens.specs.declared.token.Token.TheVariants as token
use Rattle.sql_tokens.specs.declared.word.Word.TheVariants as word
use Rattle.pg_values.specs.declared.col_type.ColType.{ColType}
use Rattle.pg_values.specs.declared.col_type.ColType.TheVariants as kind
use Rattle.pg_values.specs.declared.value.Value.{Value}
use Rattle.pg_values.specs.declared.value.Value.TheVariants as value
use Rattle.schema.specs.declared.catalogue.Fill.{Fill}
use Rattle.schema.specs.declared.catalogue.Fill.TheVariants as fill
use Rattle.schema.specs.declared.catalogue.TableDef.{TableDef}
use Rattle.schema.specs.declared.column_type.ColumnType.{ColumnType as AnyType}
use Rattle.schema.specs.declared.column_type.ColumnType.TheVariants.{Moment}
use Rattle.schema.specs.declared.open.Due.{Due}
use Rattle.schema.specs.declared.open.Due.TheVariants as due
use Rattle.schema.specs.declared.open.OpenColumn.{OpenColumn}
use Rattle.schema.specs.declared.open.OpenTable.{OpenTable}
use Rattle.schema.specs.declared.open.Place.{Place}
use Rattle.schema.specs.declared.open.Place.TheVariants.{Create, Table, TableName, Columns, ColumnName, ColumnType, Column, End}
use Rattle.schema.specs.Types.{type_named, kind_of}
use Rattle.schema.specs.Values.{number_value, truth_value, StringValue, is_number, is_moment}
use Rattle.schema.specs.Open.{has_table, has_column, empty_table, bare_column, may_take_type, may_take_key, may_take_fill, with_not_null, with_key, with_fill, with_column, whole_table}
use Rattle.schema.specs.Steps.{◌>>=◌, when, create_at, table_at, table_name_at, columns_at, end_at, column_name_at, type_at, column_type_at, part_at, null_at, key_at, filled, filled_with, is_now, value_at, negated_at, number_at, open_at, close_at, column_at, beside, ReadAs, step_at, Runs}
use Rattle.schema.specs.Grammar.{FillOf, number, negative, least, string, truth, falsehood, null, now, current, PartOf, not_null, key, filled as filled_part, PartsOf, TypeOf, ColumnOf, ColumnsOf, TablesOf}
use Rattle.schema.proofs.Running.{State}

-- ---- what completes each place

-- a place to which tokens are completed: between two tables, or between two columns
abbrev pub IsStop : Place → Type 0
IsStop Create = Unit {0}
IsStop (ColumnName t) = 0 < length t.columns
IsStop _ = ⊥

abbrev pub head : Name → List Token → List Token
head name inner = token.Word word.Create ∷ token.Word word.Table ∷ token.Name name ∷ token.Mark mark.Open ∷ inner

-- behind these tables nothing is left, or a table up to a comma
pub data StopOf (tables : List TableDef) (rest : List Token) (final : State) : Type 0 where
  between_tables : rest ≡ [] → final ≡ (tables, Create) → StopOf tables rest final
  between_columns : (name : Name) (inner : List Token) (count : ℕ) (t : OpenTable) → rest ≡ head name inner → has_table name.text tables ≡ false → ColumnsOf count (empty_table name.text) inner t (token.Mark mark.Comma ∷ []) → final ≡ (tables, ColumnName t) → StopOf tables rest final

-- tables up to the end, behind these
abbrev pub TablesEnd : List TableDef → List Token → State → Type 0
TablesEnd tables ts final = (more : List TableDef) × (rest : List Token) × TablesOf tables ts more rest × StopOf (tables ++ more) rest final

abbrev pub EndOf : List TableDef → TableDef → List Token → State → Type 0
EndOf tables table ts final = (mid : List Token) × (ts ≡ token.Mark mark.Semicolon ∷ mid) × TablesEnd (tables ++ table ∷ []) mid final

pub record ThroughTable (tables : List TableDef) (t : OpenTable) (ts : List Token) (final : State) : Type 0 where
  pub count : ℕ
  pub read : OpenTable
  pub rest : List Token
  pub table : TableDef
  pub columns : ColumnsOf count t ts read (token.Mark mark.Close ∷ rest)
  pub has_key : whole_table read ≡ Some table
  pub ends : EndOf tables table rest final

-- the table is completed and left, or the tokens stop between two of its columns
pub data InTable (tables : List TableDef) (t : OpenTable) (ts : List Token) (final : State) : Type 0 where
  through : ThroughTable tables t ts final → InTable tables t ts final
  within : (count : ℕ) (u : OpenTable) → ColumnsOf count t ts u (token.Mark mark.Comma ∷ []) → final ≡ (tables, ColumnName u) → InTable tables t ts final
  here : ts ≡ [] → 0 < length t.columns → final ≡ (tables, ColumnName t) → InTable tables t ts final

pub data AfterColumn (tables : List TableDef) (t : OpenTable) (rest : List Token) (final : State) : Type 0 where
  goes_on : (mid : List Token) → rest ≡ token.Mark mark.Comma ∷ mid → InTable tables t mid final → AfterColumn tables t rest final
  closes : (mid : List Token) (table : TableDef) → rest ≡ token.Mark mark.Close ∷ mid → whole_table t ≡ Some table → EndOf tables table mid final → AfterColumn tables t rest final

pub record InColumn (tables : List TableDef) (t : OpenTable) (c : OpenColumn) (ts : List Token) (final : State) : Type 0 where
  pub count : ℕ
  pub column : OpenColumn
  pub rest : List Token
  pub parts : PartsOf count t c ts column rest
  pub after : AfterColumn tables (with_column t column) rest final

pub record InType (tables : List TableDef) (t : OpenTable) (index : ℕ) (name : List ℕ) (ts : List Token) (final : State) : Type 0 where
  pub kind : AnyType
  pub mid : List Token
  pub typed : TypeOf ts kind mid
  pub may : may_take_type t kind ≡ true
  pub inner : InColumn tables t (bare_column index name kind) mid final

abbrev pub InColumns : List TableDef → List ℕ → List Token → State → Type 0
InColumns tables name ts final = (inner : List Token) × (ts ≡ token.Mark mark.Open ∷ inner) × InTable tables (empty_table name) inner final

pub record Heading (tables : List TableDef) (ts : List Token) (final : State) : Type 0 where
  pub name : Name
  pub mid : List Token
  pub begun : ts ≡ token.Name name ∷ mid
  pub is_new : has_table name.text tables ≡ false
  pub inner : InColumns tables name.text mid final

abbrev pub ByDue : List TableDef → OpenTable → OpenColumn → Due → List Token → State → Type 0
ByDue tables t c due.Part ts final = InColumn tables t c ts final
ByDue tables t c due.Null ts final = (mid : List Token) × (ts ≡ token.Word word.Null ∷ mid) × InColumn tables t (with_not_null c) mid final
ByDue tables t c due.Key ts final = (mid : List Token) × (ts ≡ token.Word word.Key ∷ mid) × InColumn tables t (with_key c) mid final
ByDue tables t c due.Value ts final = (f : Fill) × (mid : List Token) × FillOf (kind_of c.kind) ts f mid × InColumn tables t (with_fill c f) mid final
ByDue tables t c due.Number ts final = (tok : Token) × (mid : List Token) × (v : Value) × (ts ≡ tok ∷ mid) × (negated_at (kind_of c.kind) tok ≡ Some v) × InColumn tables t (with_fill c (fill.Constant v)) mid final
ByDue tables t c due.Open ts final = (mid : List Token) × (ts ≡ token.Mark mark.Open ∷ token.Mark mark.Close ∷ mid) × InColumn tables t (with_fill c fill.Now) mid final
ByDue tables t c due.Close ts final = (mid : List Token) × (ts ≡ token.Mark mark.Close ∷ mid) × InColumn tables t (with_fill c fill.Now) mid final

-- the tokens complete the schema from this place on, up to the end or where they stop
abbrev pub Completes : List TableDef → Place → List Token → State → Type 0
Completes tables Create ts final = TablesEnd tables ts final
Completes tables Table ts final = (mid : List Token) × (ts ≡ token.Word word.Table ∷ mid) × Heading tables mid final
Completes tables TableName ts final = Heading tables ts final
Completes tables (Columns name) ts final = InColumns tables name ts final
Completes tables (ColumnName t) ts final = InTable tables t ts final
Completes tables (ColumnType t index name) ts final = InType tables t index name ts final
Completes tables (Column t c d) ts final = ByDue tables t c d ts final
Completes tables (End table) ts final = EndOf tables table ts final

-- ---- from the place behind a token to the place before it

pub nothing : {A : Type 0} {x : A} → None ≡ Some x → ⊥
nothing e = absurd cc

pub same : {A : Type 0} (x y : A) → Some x ≡ Some y → x ≡ y
same x y e = cc

pub when_some : {A : Type 0} (b : Truth) (x y : A) → when b x ≡ Some y → (b ≡ true) × (x ≡ y)
when_some false x y e = absurd (nothing e)
when_some true x y e = (refl, same x y e)

pub both_of : (a b : Truth) → (a && b) ≡ true → (a ≡ true) × (b ≡ true)
both_of false b e = absurd cc
both_of true b e = (refl, e)

not_true : (b : Truth) → not b ≡ true → b ≡ false
not_true false e = refl
not_true true e = absurd cc

moment_of : (k : ColType) → is_moment k ≡ true → k ≡ kind.Moment
moment_of kind.Bool e = absurd cc
moment_of kind.Int4 e = absurd cc
moment_of kind.Int8 e = absurd cc
moment_of kind.Text e = absurd cc
moment_of kind.Moment e = refl

module _ (tables : List TableDef) (final : State) where
  abbrev Ends : Place → List Token → Type 0
  Ends place ts = Completes tables place ts final

  along : (p q : Place) (ts : List Token) → p ≡ q → Ends q ts → Ends p ts
  along p q ts e k = subst (λ (p : Place). Ends p ts) (sym e) k

  parts_to : (count : ℕ) (t : OpenTable) (c d : OpenColumn) (ts rest other : List Token) → rest ≡ other → PartsOf count t c ts d rest → PartsOf count t c ts d other
  parts_to count t c d ts rest other e p = subst (λ (x : List Token). PartsOf count t c ts d x) e p

  add_part : (t : OpenTable) (c d : OpenColumn) (ts mid : List Token) → PartOf t c ts d mid → InColumn tables t d mid final → InColumn tables t c ts final
  add_part t c d ts mid p i = record { count = suc i.count; column = i.column; rest = i.rest; parts = (d, mid, p, i.parts); after = i.after }

  -- what stands behind the head of a table is the table, or a part of it
  headed : (name : Name) (inner ts : List Token) → ts ≡ head name inner → has_table name.text tables ≡ false → InTable tables (empty_table name.text) inner final → Ends Create ts
  headed name inner ts e new (through table) =
      let ends = table.ends in
      let more = ends.2 in (
        table.table ∷ more.0,
        more.1,
        (
          ends.0,
          record {
            name = name;
            inner = inner;
            count = table.count;
            read = table.read;
            begun = e;
            is_new = new;
            columns = subst (λ (x : List Token). ColumnsOf table.count (empty_table name.text) inner table.read (token.Mark mark.Close ∷ x)) ends.1 table.columns;
            has_key = table.has_key;
          },
          more.2,
        ),
        subst (λ (x : List TableDef). StopOf x more.1 final) (append_assoc tables (table.table ∷ []) more.0) more.3,
      )
  headed name inner ts e new (within count u columns f) = ([], ts, refl, subst (λ (x : List TableDef). StopOf x ts final) (sym (append-nil tables)) (between_columns name inner count u e new columns f))
  headed name inner ts e new (here z h f) = let none : 0 < 0 = h in absurd (omega arith)

  back_create : (t : Token) (ts : List Token) (p : Place) → create_at tables t ≡ Some p → Ends p ts → Ends Create (t ∷ ts)
  back_create (token.Word word.Create) ts p e k = begun (along Table p ts (when_some (nat_lt (length tables) 64) Table p e).1 k) where
    begun : Ends Table ts → Ends Create (token.Word word.Create ∷ ts)
    begun h =
        let front = h.2 in
        let inner = front.inner in
        headed front.name inner.0 (token.Word word.Create ∷ ts) (ap (λ (x : List Token). token.Word word.Create ∷ x) (h.1 ∙ ap (λ (x : List Token). token.Word word.Table ∷ x) (front.begun ∙ ap (λ (x : List Token). token.Name front.name ∷ x) inner.1))) front.is_new inner.2
  back_create _ ts p e k = absurd (nothing e)

  back_table : (t : Token) (ts : List Token) (p : Place) → table_at t ≡ Some p → Ends p ts → Ends Table (t ∷ ts)
  back_table (token.Word word.Table) ts p e k = (ts, refl, along TableName p ts (same TableName p e) k)
  back_table _ ts p e k = absurd (nothing e)

  back_table_name : (t : Token) (ts : List Token) (p : Place) → table_name_at tables t ≡ Some p → Ends p ts → Ends TableName (t ∷ ts)
  back_table_name (token.Name n) ts p e k =
      let w = when_some (not (has_table n.text tables)) (Columns n.text) p e in
      record { name = n; mid = ts; begun = refl; is_new = not_true (has_table n.text tables) w.0; inner = along (Columns n.text) p ts w.1 k }
  back_table_name _ ts p e k = absurd (nothing e)

  back_columns : (name : List ℕ) (t : Token) (ts : List Token) (p : Place) → columns_at name t ≡ Some p → Ends p ts → Ends (Columns name) (t ∷ ts)
  back_columns name (token.Mark mark.Open) ts p e k = (ts, refl, along (ColumnName (empty_table name)) p ts (same (ColumnName (empty_table name)) p e) k)
  back_columns name _ ts p e k = absurd (nothing e)

  -- the column, and what stands behind it
  column_of : (t : OpenTable) (n : Name) (ts rest : List Token) → has_column n.text t.columns ≡ false → (i : InType tables t (length t.columns) n.text ts final) → i.inner.rest ≡ rest → ColumnOf t (token.Name n ∷ ts) (with_column t i.inner.column) rest
  column_of t n ts rest new i e = record {
    name = n;
    behind_name = ts;
    kind = i.kind;
    behind_type = i.mid;
    count = i.inner.count;
    column = i.inner.column;
    named = refl;
    is_new = new;
    typed = i.typed;
    may = i.may;
    parts = parts_to i.inner.count t (bare_column (length t.columns) n.text i.kind) i.inner.column i.mid i.inner.rest rest e i.inner.parts;
    made = refl;
  }

  whole : (t : OpenTable) (n : Name) (ts : List Token) → has_column n.text t.columns ≡ false → (i : InType tables t (length t.columns) n.text ts final) → AfterColumn tables (with_column t i.inner.column) i.inner.rest final → InTable tables t (token.Name n ∷ ts) final
  whole t n ts new i (goes_on mid e (through k)) = through (record {
    count = suc k.count;
    read = k.read;
    rest = k.rest;
    table = k.table;
    columns = (with_column t i.inner.column, mid, column_of t n ts (token.Mark mark.Comma ∷ mid) new i e, k.columns);
    has_key = k.has_key;
    ends = k.ends;
  })
  whole t n ts new i (goes_on mid e (within count u columns f)) = within (suc count) u (with_column t i.inner.column, mid, column_of t n ts (token.Mark mark.Comma ∷ mid) new i e, columns) f
  whole t n ts new i (goes_on mid e (here z h f)) = within zero (with_column t i.inner.column) (column_of t n ts (token.Mark mark.Comma ∷ []) new i (e ∙ ap (λ (x : List Token). token.Mark mark.Comma ∷ x) z)) f
  whole t n ts new i (closes mid table e w k) = through (record {
    count = zero;
    read = with_column t i.inner.column;
    rest = mid;
    table = table;
    columns = column_of t n ts (token.Mark mark.Close ∷ mid) new i e;
    has_key = w;
    ends = k;
  })

  back_column_name : (t : OpenTable) (tok : Token) (ts : List Token) (p : Place) → column_name_at t tok ≡ Some p → Ends p ts → Ends (ColumnName t) (tok ∷ ts)
  back_column_name t (token.Name n) ts p e k =
      let w = when_some (nat_lt (length t.columns) 32 && not (has_column n.text t.columns)) (ColumnType t (length t.columns) n.text) p e in
      let b = both_of (nat_lt (length t.columns) 32) (not (has_column n.text t.columns)) w.0 in
      let i : InType tables t (length t.columns) n.text ts final = along (ColumnType t (length t.columns) n.text) p ts w.1 k in
      whole t n ts (not_true (has_column n.text t.columns) b.1) i i.inner.after
  back_column_name t _ ts p e k = absurd (nothing e)

  type_of : (tok : Token) (ts : List Token) (a : AnyType) → type_at tok ≡ Some a → TypeOf (tok ∷ ts) a ts
  type_of (token.Word word.Timestamptz) ts a e = inl (refl, sym (same Moment a e))
  type_of (token.Name n) ts a e = by n.quoted refl e where
    by : (b : Truth) → n.quoted ≡ b → (if b then None else type_named n.text) ≡ Some a → TypeOf (token.Name n ∷ ts) a ts
    by true q e = absurd (nothing e)
    by false q e = inr (n, refl, q, e)
  type_of _ ts a e = absurd (nothing e)

  back_column_type : (t : OpenTable) (index : ℕ) (name : List ℕ) (tok : Token) (ts : List Token) (p : Place) → column_type_at t index name tok ≡ Some p → Ends p ts → Ends (ColumnType t index name) (tok ∷ ts)
  back_column_type t index name tok ts p e k = by (type_at tok) refl e where
    by : (o : Option AnyType) → type_at tok ≡ o → (o >>= λ a. when (may_take_type t a) (Column t (bare_column index name a) due.Part)) ≡ Some p → Ends (ColumnType t index name) (tok ∷ ts)
    by None q e = absurd (nothing e)
    by (Some a) q e =
        let w = when_some (may_take_type t a) (Column t (bare_column index name a) due.Part) p e in
        record { kind = a; mid = ts; typed = type_of tok ts a q; may = w.0; inner = along (Column t (bare_column index name a) due.Part) p ts w.1 k }

  back_ended : (t : OpenTable) (ts : List Token) (p : Place) (o : Option TableDef) → whole_table t ≡ o → option_map End o ≡ Some p → Ends p ts → AfterColumn tables t (token.Mark mark.Close ∷ ts) final
  back_ended t ts p None w e k = absurd (nothing e)
  back_ended t ts p (Some table) w e k = closes ts table refl w (along (End table) p ts (same (End table) p e) k)

  back_part : (t : OpenTable) (c : OpenColumn) (tok : Token) (ts : List Token) (p : Place) → part_at t c tok ≡ Some p → Ends p ts → Ends (Column t c due.Part) (tok ∷ ts)
  back_part t c (token.Word word.Not) ts p e k =
      let w = when_some (not c.not_null) (Column t c due.Null) p e in
      let h : ByDue tables t c due.Null ts final = along (Column t c due.Null) p ts w.1 k in
      add_part t c (with_not_null c) (token.Word word.Not ∷ ts) h.0 (not_null (ap (λ (x : List Token). token.Word word.Not ∷ x) h.1) (not_true c.not_null w.0) refl) h.2
  back_part t c (token.Word word.Primary) ts p e k =
      let w = when_some (may_take_key t c) (Column t c due.Key) p e in
      let h : ByDue tables t c due.Key ts final = along (Column t c due.Key) p ts w.1 k in
      add_part t c (with_key c) (token.Word word.Primary ∷ ts) h.0 (key (ap (λ (x : List Token). token.Word word.Primary ∷ x) h.1) w.0 refl) h.2
  back_part t c (token.Word word.Default) ts p e k =
      let w = when_some (may_take_fill c) (Column t c due.Value) p e in
      let h : ByDue tables t c due.Value ts final = along (Column t c due.Value) p ts w.1 k in
      add_part t c (with_fill c h.0) (token.Word word.Default ∷ ts) h.1 (filled_part ts h.0 refl w.0 h.2 refl) h.3
  back_part t c (token.Mark mark.Comma) ts p e k = record { count = zero; column = c; rest = token.Mark mark.Comma ∷ ts; parts = (refl, refl); after = goes_on ts refl (along (ColumnName (with_column t c)) p ts (same (ColumnName (with_column t c)) p e) k) }
  back_part t c (token.Mark mark.Close) ts p e k = record { count = zero; column = c; rest = token.Mark mark.Close ∷ ts; parts = (refl, refl); after = back_ended (with_column t c) ts p (whole_table (with_column t c)) refl e k }
  back_part t c _ ts p e k = absurd (nothing e)

  back_null : (t : OpenTable) (c : OpenColumn) (tok : Token) (ts : List Token) (p : Place) → null_at t c tok ≡ Some p → Ends p ts → Ends (Column t c due.Null) (tok ∷ ts)
  back_null t c (token.Word word.Null) ts p e k = (ts, refl, along (Column t (with_not_null c) due.Part) p ts (same (Column t (with_not_null c) due.Part) p e) k)
  back_null t c _ ts p e k = absurd (nothing e)

  back_key : (t : OpenTable) (c : OpenColumn) (tok : Token) (ts : List Token) (p : Place) → key_at t c tok ≡ Some p → Ends p ts → Ends (Column t c due.Key) (tok ∷ ts)
  back_key t c (token.Word word.Key) ts p e k = (ts, refl, along (Column t (with_key c) due.Part) p ts (same (Column t (with_key c) due.Part) p e) k)
  back_key t c _ ts p e k = absurd (nothing e)

  filled_some : (t : OpenTable) (c : OpenColumn) (o : Option Value) (ts : List Token) (p : Place) → filled_with t c o ≡ Some p → Ends p ts → (v : Value) × (o ≡ Some v) × InColumn tables t (with_fill c (fill.Constant v)) ts final
  filled_some t c None ts p e k = absurd (nothing e)
  filled_some t c (Some v) ts p e k = (v, refl, along (filled t c (fill.Constant v)) p ts (same (filled t c (fill.Constant v)) p e) k)

  number_then : (t : OpenTable) (c : OpenColumn) (tok : Token) (mid : List Token) (v : Value) (ts : List Token) → ts ≡ tok ∷ mid → negated_at (kind_of c.kind) tok ≡ Some v → FillOf (kind_of c.kind) (token.Mark mark.Minus ∷ ts) (fill.Constant v) mid
  number_then t c (token.Number n) mid v ts e w = negative n v (ap (λ (x : List Token). token.Mark mark.Minus ∷ x) e) w refl
  number_then t c token.Least mid v ts e w = least v (ap (λ (x : List Token). token.Mark mark.Minus ∷ x) e) w refl
  number_then t c _ mid v ts e w = absurd (nothing w)

  back_value : (t : OpenTable) (c : OpenColumn) (read : Option Value) (tok : Token) (ts : List Token) (p : Place) → ReadAs (Column t c due.Value) tok read → value_at t c read tok ≡ Some p → Ends p ts → Ends (Column t c due.Value) (tok ∷ ts)
  back_value t c read (token.Number n) ts p r e k =
      let h = filled_some t c (number_value (kind_of c.kind) n) ts p e k in
      (fill.Constant h.0, ts, number n h.0 refl h.1 refl, h.2)
  back_value t c read (token.Str s) ts p r e k =
      let h = filled_some t c read ts p e k in
      (fill.Constant h.0, ts, string s h.0 refl (subst (λ (o : Option Value). StringValue (kind_of c.kind) s o) h.1 r) refl, h.2)
  back_value t c read (token.Mark mark.Minus) ts p r e k =
      let w = when_some (is_number (kind_of c.kind)) (Column t c due.Number) p e in
      let h : ByDue tables t c due.Number ts final = along (Column t c due.Number) p ts w.1 k in
      (fill.Constant h.2, h.1, number_then t c h.0 h.1 h.2 ts h.3 h.4, h.5)
  back_value t c read (token.Word word.True) ts p r e k =
      let h = filled_some t c (truth_value (kind_of c.kind) true) ts p e k in
      (fill.Constant h.0, ts, truth h.0 refl h.1 refl, h.2)
  back_value t c read (token.Word word.False) ts p r e k =
      let h = filled_some t c (truth_value (kind_of c.kind) false) ts p e k in
      (fill.Constant h.0, ts, falsehood h.0 refl h.1 refl, h.2)
  back_value t c read (token.Word word.Null) ts p r e k =
      (fill.Constant value.Null, ts, null refl refl, along (filled t c (fill.Constant value.Null)) p ts (same (filled t c (fill.Constant value.Null)) p e) k)
  back_value t c read (token.Word word.CurrentTimestamp) ts p r e k =
      let w = when_some (is_moment (kind_of c.kind)) (filled t c fill.Now) p e in
      (fill.Now, ts, current refl (moment_of (kind_of c.kind) w.0) refl, along (filled t c fill.Now) p ts w.1 k)
  back_value t c read (token.Name n) ts p r e k =
      let w = when_some (is_moment (kind_of c.kind) && is_now n) (Column t c due.Open) p e in
      let b = both_of (is_moment (kind_of c.kind)) (is_now n) w.0 in
      let h : ByDue tables t c due.Open ts final = along (Column t c due.Open) p ts w.1 k in
      (fill.Now, h.0, now n (ap (λ (x : List Token). token.Name n ∷ x) h.1) b.1 (moment_of (kind_of c.kind) b.0) refl, h.2)
  back_value t c read _ ts p r e k = absurd (nothing e)

  back_number : (t : OpenTable) (c : OpenColumn) (tok : Token) (ts : List Token) (p : Place) → number_at t c tok ≡ Some p → Ends p ts → Ends (Column t c due.Number) (tok ∷ ts)
  back_number t c tok ts p e k = let h = filled_some t c (negated_at (kind_of c.kind) tok) ts p e k in (tok, ts, h.0, refl, h.1, h.2)

  back_open : (t : OpenTable) (c : OpenColumn) (tok : Token) (ts : List Token) (p : Place) → open_at t c tok ≡ Some p → Ends p ts → Ends (Column t c due.Open) (tok ∷ ts)
  back_open t c (token.Mark mark.Open) ts p e k =
      let h : ByDue tables t c due.Close ts final = along (Column t c due.Close) p ts (same (Column t c due.Close) p e) k in
      (h.0, ap (λ (x : List Token). token.Mark mark.Open ∷ x) h.1, h.2)
  back_open t c _ ts p e k = absurd (nothing e)

  back_close : (t : OpenTable) (c : OpenColumn) (tok : Token) (ts : List Token) (p : Place) → close_at t c tok ≡ Some p → Ends p ts → Ends (Column t c due.Close) (tok ∷ ts)
  back_close t c (token.Mark mark.Close) ts p e k = (ts, refl, along (filled t c fill.Now) p ts (same (filled t c fill.Now) p e) k)
  back_close t c _ ts p e k = absurd (nothing e)

  back_column : (t : OpenTable) (c : OpenColumn) (d : Due) (read : Option Value) (tok : Token) (ts : List Token) (p : Place) → ReadAs (Column t c d) tok read → column_at t c d read tok ≡ Some p → Ends p ts → Ends (Column t c d) (tok ∷ ts)
  back_column t c due.Part read tok ts p r e k = back_part t c tok ts p e k
  back_column t c due.Null read tok ts p r e k = back_null t c tok ts p e k
  back_column t c due.Key read tok ts p r e k = back_key t c tok ts p e k
  back_column t c due.Value read tok ts p r e k = back_value t c read tok ts p r e k
  back_column t c due.Number read tok ts p r e k = back_number t c tok ts p e k
  back_column t c due.Open read tok ts p r e k = back_open t c tok ts p e k
  back_column t c due.Close read tok ts p r e k = back_close t c tok ts p e k

-- tables, and the place at which the next one begins
abbrev stored : Option (List TableDef) → Option State
stored o = option_map {U = State} (λ more. (more, Create)) o

back_end : (tables : List TableDef) (final : State) (table : TableDef) (tok : Token) (ts : List Token) (m : State) → stored (end_at tables table tok) ≡ Some m → Completes m.0 m.1 ts final → EndOf tables table (tok ∷ ts) final
back_end tables final table (token.Mark mark.Semicolon) ts m e k = (ts, refl, subst (λ (s : State). Completes s.0 s.1 ts final) (sym (same (tables ++ table ∷ [], Create) m e)) k)
back_end tables final table _ ts m e k = absurd (nothing e)

pub beside_some : (tables : List TableDef) (o : Option Place) (m : State) → beside tables o ≡ Some m → (p : Place) × (o ≡ Some p) × ((tables, p) ≡ m)
beside_some tables None m e = absurd (nothing e)
beside_some tables (Some p) m e = (p, refl, same (tables, p) m e)

at_place : (tables : List TableDef) (final : State) (p : Place) (m : State) (ts : List Token) → (tables, p) ≡ m → Completes m.0 m.1 ts final → Completes tables p ts final
at_place tables final p m ts e k = subst (λ (s : State). Completes s.0 s.1 ts final) (sym e) k

pub back : (tables : List TableDef) (final : State) (place : Place) (read : Option Value) (tok : Token) (ts : List Token) (m : State) → ReadAs place tok read → step_at tables place read tok ≡ Some m → Completes m.0 m.1 ts final → Completes tables place (tok ∷ ts) final
back tables final Create read tok ts m r e k = let b = beside_some tables (create_at tables tok) m e in back_create tables final tok ts b.0 b.1 (at_place tables final b.0 m ts b.2 k)
back tables final Table read tok ts m r e k = let b = beside_some tables (table_at tok) m e in back_table tables final tok ts b.0 b.1 (at_place tables final b.0 m ts b.2 k)
back tables final TableName read tok ts m r e k = let b = beside_some tables (table_name_at tables tok) m e in back_table_name tables final tok ts b.0 b.1 (at_place tables final b.0 m ts b.2 k)
back tables final (Columns name) read tok ts m r e k = let b = beside_some tables (columns_at name tok) m e in back_columns tables final name tok ts b.0 b.1 (at_place tables final b.0 m ts b.2 k)
back tables final (ColumnName t) read tok ts m r e k = let b = beside_some tables (column_name_at t tok) m e in back_column_name tables final t tok ts b.0 b.1 (at_place tables final b.0 m ts b.2 k)
back tables final (ColumnType t index name) read tok ts m r e k = let b = beside_some tables (column_type_at t index name tok) m e in back_column_type tables final t index name tok ts b.0 b.1 (at_place tables final b.0 m ts b.2 k)
back tables final (Column t c d) read tok ts m r e k = let b = beside_some tables (column_at t c d read tok) m e in back_column tables final t c d read tok ts b.0 r b.1 (at_place tables final b.0 m ts b.2 k)
back tables final (End table) read tok ts m r e k = back_end tables final table tok ts m e k

at_stop : (tables : List TableDef) (place : Place) → IsStop place → Completes tables place [] (tables, place)
at_stop tables Create h = ([], [], refl, between_tables refl (ap (λ (x : List TableDef). let s : State = (x, Create) in s) (sym (append-nil tables))))
at_stop tables (ColumnName t) h = here refl h refl
at_stop tables Table h = absurd h
at_stop tables TableName h = absurd h
at_stop tables (Columns name) h = absurd h
at_stop tables (ColumnType t index name) h = absurd h
at_stop tables (Column t c d) h = absurd h
at_stop tables (End table) h = absurd h

-- what runs from a place to the end of a schema, or to where tokens may stop, completes it
pub completes : (s : State) (ts : List Token) (final : State) → IsStop final.1 → Runs s ts final → Completes s.0 s.1 ts final
unfolding Runs
completes s [] final stop e = subst (λ (s : State). Completes s.0 s.1 [] final) e (at_stop final.0 final.1 stop)
completes s (t ∷ ts) final stop r = back s.0 final s.1 r.1.0 t ts r.0 r.1.1 r.1.2 (completes r.0 ts final stop r.2)
