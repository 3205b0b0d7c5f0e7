-- The columns of a table that is read are columns that a table can have.
use Rattle.std.proofs.Common.{◌≡◌, ◌∙◌, ◌||◌, ◌&&◌, ◌+◌, not, ℕ, zero, suc, Bool as Truth, true, false, List, [], ◌∷◌, ◌++◌, length, refl, sym, subst, inl, inr, ◌⊎◌, if◌then◌else◌, Option, Some, None, length-append, arith}
use Rattle.std.specs.Prelude.{is_some}
use Rattle.std.proofs.lemmas.Bool.{true≢false}
use Rattle.sql_tokens.specs.declared.token.Token.{Token as AnyToken}
use Rattle.pg_values.specs.declared.col_type.ColType.{ColType}
use Rattle.pg_values.specs.declared.col_type.ColType.TheVariants as kind
use Rattle.schema.specs.declared.catalogue.ColumnDef.{ColumnDef}
use Rattle.schema.specs.declared.catalogue.Fill.{Fill}
use Rattle.schema.specs.declared.catalogue.Fill.TheVariants as fill
use Rattle.schema.specs.declared.column_type.ColumnType.{ColumnType}
use Rattle.schema.specs.declared.column_type.ColumnType.TheVariants as col
use Rattle.schema.specs.declared.open.OpenColumn.{OpenColumn}
use Rattle.schema.specs.declared.open.OpenTable.{OpenTable}
use Rattle.schema.specs.Types.{kind_of, may_be_key, is_serial}
use Rattle.schema.specs.Open.{has_column, bare_column, may_take_type, with_column, whole_column, fill_or_nothing, number_or}
use Rattle.schema.specs.Grammar.{PartOf, not_null, key, filled, PartsOf, TypeOf, ColumnOf, ColumnsOf}
use Rattle.schema.proofs.Completing.{both_of}
use Rattle.schema.specs.Allowed as allowed
use Rattle.schema.specs.Allowed.{IsName, IsColumn, IsFillOf, IsKeyIf, is_key_kind, is_at, IsBelow}
use Rattle.sql_profile.proofs.SchemaNames.{AreClean}
use Rattle.sql_profile.proofs.Constants.{IsFillOfKind, fill_given}
use Rattle.sql_profile.proofs.Lists.{IsNext, AreNext, same_columns, one_more, stays, is_new, below_next}

abbrev pub IsGiven : ColType → Option Fill → Type 0
IsGiven of None = Unit {0}
IsGiven of (Some f) = IsFillOfKind of f

-- a table as far as it is read
pub record IsOpen (table : OpenTable) : Type 0 where
  pub columns : AreNext table.key table.serial [] table.columns
  pub key_below : IsBelow (length table.columns) table.key
  pub serial_below : IsBelow (length table.columns) table.serial

-- a column as far as it is read, of such a table
pub record IsOpenColumn (table : OpenTable) (column : OpenColumn) : Type 0 where
  pub numbered : column.number ≡ length table.columns
  pub named : IsName column.name
  pub is_new : has_column column.name table.columns ≡ false
  pub serial_free : is_serial column.kind ≡ true → is_some table.serial ≡ false
  pub key_free : column.key ≡ true → (may_be_key column.kind ≡ true) × (is_some table.key ≡ false)
  pub given : IsGiven (kind_of column.kind) column.fill

-- ---- a column of which all was read

given_fill : (column : ColumnDef) (o : Option Fill) → IsGiven column.kind o → IsFillOf column (fill_or_nothing o)
given_fill column None is = tt
given_fill column (Some fill.Nothing) is = absurd is
given_fill column (Some fill.Serial) is = absurd is
given_fill column (Some fill.Now) is = is
given_fill column (Some (fill.Constant v)) is = is

abbrev IsSerialColumn : ColumnDef → Type 0
IsSerialColumn column = ((column.kind ≡ kind.Int4) ⊎ (column.kind ≡ kind.Int8)) × (column.not_null ≡ true)

whole_fill : (column : ColumnDef) (o : Option Fill) (serial : Truth) → (serial ≡ true → IsSerialColumn column) → IsGiven column.kind o → IsFillOf column (if serial then fill.Serial else fill_or_nothing o)
whole_fill column o true is given = is refl
whole_fill column o false is given = given_fill column o given

not_serial : (of : ColType) (o : Option Fill) → IsGiven of o → allowed.is_serial (fill_or_nothing o) ≡ false
not_serial of None is = refl
not_serial of (Some fill.Nothing) is = refl
not_serial of (Some fill.Serial) is = absurd is
not_serial of (Some fill.Now) is = refl
not_serial of (Some (fill.Constant v)) is = refl

whole_serial : (of : ColType) (o : Option Fill) (serial : Truth) → IsGiven of o → allowed.is_serial (if serial then fill.Serial else fill_or_nothing o) ≡ serial
whole_serial of o true is = refl
whole_serial of o false is = not_serial of o is

whole_key : (column : ColumnDef) (is_key : Truth) → (is_key ≡ true → (is_key_kind column.kind ≡ true) × (column.not_null ≡ true)) → IsKeyIf is_key column
whole_key column true is = is refl
whole_key column false is = tt

serial_kind : (k : ColumnType) → is_serial k ≡ true → (kind_of k ≡ kind.Int4) ⊎ (kind_of k ≡ kind.Int8)
serial_kind col.Serial e = inl refl
serial_kind col.BigSerial e = inr refl
serial_kind _ e = absurd (true≢false (sym e))

key_kind : (k : ColumnType) → may_be_key k ≡ true → is_key_kind (kind_of k) ≡ true
key_kind col.Bool e = absurd (true≢false (sym e))
key_kind col.Moment e = absurd (true≢false (sym e))
key_kind _ e = refl

third : (a b c : Truth) → c ≡ true → (a || (b || c)) ≡ true
third true b c e = refl
third false true c e = refl
third false false c e = e

second : (a b c : Truth) → b ≡ true → (a || (b || c)) ≡ true
second true b c e = refl
second false true c e = refl
second false false c e = absurd (true≢false (sym e))

is_column : (table : OpenTable) (c : OpenColumn) → IsOpenColumn table c → IsColumn c.key (is_serial c.kind) (whole_column c)
is_column table c is = record {
  named = is.named;
  filled = whole_fill (whole_column c) c.fill (is_serial c.kind) (λ e. (serial_kind c.kind e, third c.not_null c.key (is_serial c.kind) e)) is.given;
  numbered = whole_serial (kind_of c.kind) c.fill (is_serial c.kind) is.given;
  key = whole_key (whole_column c) c.key (λ e. (key_kind c.kind (is.key_free e).0, second c.not_null c.key (is_serial c.kind) e));
}

-- the table with this column more
module _ (table : OpenTable) (c : OpenColumn) (open_table : IsOpen table) (open_column : IsOpenColumn table c) where
  abbrev most : ℕ
  most = length table.columns

  abbrev new_key : Option ℕ
  new_key = number_or c.key most table.key

  abbrev new_serial : Option ℕ
  new_serial = number_or (is_serial c.kind) most table.serial

  is_next : IsNext new_key new_serial table.columns (whole_column c)
  is_next =
      let key_is = is_new c.key most table.key open_table.key_below in
      let serial_is = is_new (is_serial c.kind) most table.serial open_table.serial_below in
      let with_key = subst (λ (t : Truth). IsColumn t (is_serial c.kind) (whole_column c)) (sym key_is) (is_column table c open_column) in
      (subst (λ (t : Truth). IsColumn (is_at most new_key) t (whole_column c)) (sym serial_is) with_key, open_column.is_new)

  are_next : AreNext new_key new_serial [] (table.columns ++ whole_column c ∷ [])
  are_next =
      one_more new_key new_serial [] table.columns (whole_column c)
      (same_columns table.key new_key table.serial new_serial [] table.columns
      (stays c.key most table.key (λ e. (open_column.key_free e).1))
      (stays (is_serial c.kind) most table.serial open_column.serial_free) open_table.columns)
      is_next

  long : most + 1 ≡ length (table.columns ++ whole_column c ∷ [])
  long = let e = length-append table.columns (whole_column c ∷ []) in omega (arith, e)

  abbrev IsMore : ℕ → Type 0
  IsMore n = IsOpen (record {
    name = table.name;
    columns = table.columns ++ whole_column c ∷ [];
    key = number_or c.key n table.key;
    serial = number_or (is_serial c.kind) n table.serial;
  })

  is_more : IsMore most
  is_more = record {
    columns = are_next;
    key_below = subst (λ (n : ℕ). IsBelow n new_key) long (below_next c.key most table.key open_table.key_below);
    serial_below = subst (λ (n : ℕ). IsBelow n new_serial) long (below_next (is_serial c.kind) most table.serial open_table.serial_below);
  }

  open_more : IsOpen (with_column table c)
  open_more = subst IsMore (sym open_column.numbered) is_more

-- ---- a column part by part

free : (a b : Truth) → not (a && b) ≡ true → a ≡ true → b ≡ false
free true true e is = absurd (true≢false (sym e))
free true false e is = refl
free false b e is = absurd (true≢false (sym is))

neither : (a b : Truth) → not (a || b) ≡ true → b ≡ false
neither true b e = absurd (true≢false (sym e))
neither false true e = absurd (true≢false (sym e))
neither false false e = refl

bare_open : (table : OpenTable) (name : List ℕ) (k : ColumnType) → IsName name → has_column name table.columns ≡ false → may_take_type table k ≡ true → IsOpenColumn table (bare_column (length table.columns) name k)
bare_open table name k named new may = record {
  numbered = refl;
  named = named;
  is_new = new;
  serial_free = free (is_serial k) (is_some table.serial) may;
  key_free = λ e. absurd (true≢false (sym e));
  given = tt;
}

part_open : (table : OpenTable) (column : OpenColumn) (ts : List AnyToken) (more : OpenColumn) (rest : List AnyToken) → PartOf table column ts more rest → AreClean ts → IsOpenColumn table column → IsOpenColumn table more × AreClean rest
part_open table column ts more rest (not_null t may e) clean is = (
  subst (IsOpenColumn table) (sym e) (record {
    numbered = is.numbered;
    named = is.named;
    is_new = is.is_new;
    serial_free = is.serial_free;
    key_free = is.key_free;
    given = is.given;
  }),
  (subst AreClean t clean).1.1,
)
part_open table column ts more rest (key t may e) clean is =
    let both = both_of (may_be_key column.kind) (not (column.key || is_some table.key)) may in (
      subst (IsOpenColumn table) (sym e) (record {
        numbered = is.numbered;
        named = is.named;
        is_new = is.is_new;
        serial_free = is.serial_free;
        key_free = λ _. (both.0, neither column.key (is_some table.key) both.1);
        given = is.given;
      }),
      (subst AreClean t clean).1.1,
    )
part_open table column ts more rest (filled mid f t may value e) clean is =
    let read = fill_given (kind_of column.kind) mid f rest value (subst AreClean t clean).1 in (
      subst (IsOpenColumn table) (sym e) (record {
        numbered = is.numbered;
        named = is.named;
        is_new = is.is_new;
        serial_free = is.serial_free;
        key_free = is.key_free;
        given = read.0;
      }),
      read.1,
    )

parts_open : (count : ℕ) (table : OpenTable) (column : OpenColumn) (ts : List AnyToken) (more : OpenColumn) (rest : List AnyToken) → PartsOf count table column ts more rest → AreClean ts → IsOpenColumn table column → IsOpenColumn table more × AreClean rest
parts_open zero table column ts more rest (same, e) clean is = (subst (IsOpenColumn table) (sym e) is, subst AreClean same clean)
parts_open (suc count) table column ts more rest (next, mid, part, parts) clean is =
    let one = part_open table column ts next mid part clean is in
    parts_open count table next mid more rest parts one.1 one.0

behind_type : (ts : List AnyToken) (k : ColumnType) (rest : List AnyToken) → TypeOf ts k rest → AreClean ts → AreClean rest
behind_type ts k rest (inl (t, is)) clean = (subst AreClean t clean).1
behind_type ts k rest (inr (n, t, plain, is)) clean = (subst AreClean t clean).1

-- a table of this name, and what stands behind its columns
abbrev pub IsOpenWith : List ℕ → OpenTable → List AnyToken → Type 0
IsOpenWith name table rest = IsOpen table × (table.name ≡ name) × AreClean rest

column_open : (table : OpenTable) (ts : List AnyToken) (more : OpenTable) (rest : List AnyToken) → ColumnOf table ts more rest → AreClean ts → IsOpen table → IsOpenWith table.name more rest
column_open table ts more rest c clean is =
    let front = subst AreClean c.named clean in
    let bare = bare_open table c.name.text c.kind front.0 c.is_new c.may in
    let read = parts_open c.count table (bare_column (length table.columns) c.name.text c.kind) c.behind_type c.column rest c.parts (behind_type c.behind_name c.kind c.behind_type c.typed front.1) bare in
    subst (λ (t : OpenTable). IsOpenWith table.name t rest) (sym c.made) (open_more table c.column is read.0, refl, read.1)

pub columns_open : (count : ℕ) (table : OpenTable) (ts : List AnyToken) (more : OpenTable) (rest : List AnyToken) → ColumnsOf count table ts more rest → AreClean ts → IsOpen table → IsOpenWith table.name more rest
columns_open zero table ts more rest c clean is = column_open table ts more rest c clean is
columns_open (suc count) table ts more rest (next, mid, c, others) clean is =
    let one = column_open table ts next _ c clean is in
    let all = columns_open count next mid more rest others one.2.1 one.0 in
    (all.0, all.1 ∙ one.1, all.2)
