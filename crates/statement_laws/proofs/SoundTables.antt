-- The tables that a schema can have: what is named is there, and what a cell may be left out for stands in its column.
use Rattle.std.proofs.Common.{◌≡◌, ◌∙◌, ℕ, zero, suc, ◌+◌, ◌<◌, ◌≤◌, List, [], ◌∷◌, ◌++◌, length, refl, ap, subst, arith}
use Rattle.std.specs.Prelude.{not, nat_lt, Bool as Truth, true, false, Option, Some, None, Result, Ok, Err, slice_get, unwrap_or, bytes_eq, if◌then◌else◌}
use Rattle.std.proofs.lemmas.Bool.{lt-ltb}
use Rattle.std.proofs.Math.Dec.{eqb-suc-zero}
use Rattle.std.proofs.lemmas.Option.{none-some}
use Rattle.pg_values.specs.declared.col_type.ColType.{ColType}
use Rattle.pg_values.specs.declared.col_type.ColType.TheVariants as kind
use Rattle.pg_values.specs.declared.value.Value.{Value}
use Rattle.pg_values.specs.declared.value.Value.TheVariants as value
use Rattle.schema.specs.declared.catalogue.ColumnDef.{ColumnDef}
use Rattle.schema.specs.declared.catalogue.TableDef.{TableDef}
use Rattle.schema.specs.declared.catalogue.Fill.{Fill}
use Rattle.schema.specs.declared.catalogue.Fill.TheVariants as fill
use Rattle.schema.specs.Allowed.{AreAllowed, AreColumns, AreTables, HasNoZero, IsConstantOf, IsFillOf, IsName, IsTable}
use Rattle.typed_sql.specs.Places.{are_alike}
use Rattle.typed_sql.specs.Steps.{Fault}
use Rattle.typed_sql.specs.Typing.{literal}
use Rattle.catalogue.specs.declared.checked.TypedCell.TheVariants as cell
use Rattle.catalogue.specs.Statements.{default_cell, filled, no_table, table_from, table_named}
use Rattle.checked_sql.specs.Sound.{has_no_zero, is_some_byte, is_sound, is_value}
use Rattle.checked_sql.specs.OfCatalogue.{around, is_cell, is_name, is_now, is_serial}
use Rattle.checked_sql.proofs.Kept.{both_true}
use Rattle.statement_laws.proofs.Keeping.{All}
use Rattle.statement_laws.proofs.SoundLeaves.{moment_in_range}
use Rattle.statement_laws.proofs.SoundNodes.{literal_sound}

-- a column has a name, and what it is filled with is a cell of it
pub record Filled (column : ColumnDef) : Type 0 where
  pub named : is_name column.name ≡ true
  pub cell : (kinds : List ColType) → is_cell kinds column (default_cell column) ≡ true

-- a table has its key, and columns that are filled so
pub record Whole (table : TableDef) : Type 0 where
  pub key : nat_lt table.key (length table.columns) ≡ true
  pub columns : All Filled table.columns
  pub few : length table.columns ≤ 32

pub alike_refl : (k : ColType) → are_alike k k ≡ true
alike_refl kind.Bool = refl
alike_refl kind.Int4 = refl
alike_refl kind.Int8 = refl
alike_refl kind.Text = refl
alike_refl kind.Moment = refl

some_byte : (b : ℕ) → 0 < b → is_some_byte b ≡ true
some_byte zero some = absurd (omega arith)
some_byte (suc b) some = ap not (eqb-suc-zero b)

no_zero : (text : List ℕ) → HasNoZero text → has_no_zero text ≡ true
no_zero [] all = refl
no_zero (b ∷ text) all = both_true (is_some_byte b) (has_no_zero text) (some_byte b all.0) (no_zero text all.1)

name_is : (text : List ℕ) → IsName text → is_name text ≡ true
name_is [] is = absurd (let some = is.0 in omega arith)
name_is (b ∷ text) is = no_zero (b ∷ text) is.2

-- ---- what a cell may be left out for

constant_is : (k : ColType) (v : Value) → IsConstantOf k v → is_value k v ≡ true
constant_is k value.Null is = refl
constant_is k (value.Bool b) is = ap (λ (c : ColType). is_value c (value.Bool b)) is
constant_is k (value.Int4 n) is = ap (λ (c : ColType). is_value c (value.Int4 n)) is.0
constant_is k (value.Int8 n) is = ap (λ (c : ColType). is_value c (value.Int8 n)) is.0
constant_is k (value.Text text) is = ap (λ (c : ColType). is_value c (value.Text text)) is.0 ∙ no_zero text is.1
constant_is k (value.Moment micros) is = ap (λ (c : ColType). is_value c (value.Moment micros)) is.0 ∙ moment_in_range micros is.1.0

literal_cell : (kinds : List ColType) (column : ColumnDef) (v : Value) → is_value column.kind v ≡ true → is_cell kinds column (cell.Given (literal column.kind v)) ≡ true
literal_cell kinds column v is =
    both_true (are_alike column.kind column.kind) (is_sound (around [] kinds) (literal column.kind v)) (alike_refl column.kind) (literal_sound (around [] kinds) column.kind v is)

filled_cell : (column : ColumnDef) (f : Fill) → column.fill ≡ f → IsFillOf column f → (kinds : List ColType) → is_cell kinds column (filled column f) ≡ true
filled_cell column fill.Nothing is of kinds = literal_cell kinds column value.Null refl
filled_cell column fill.Serial is of kinds = ap is_serial is
filled_cell column fill.Now is of kinds = ap is_now is
filled_cell column (fill.Constant v) is of kinds = literal_cell kinds column v (constant_is column.kind v of)

columns_filled : (key : ℕ) (serial : Option ℕ) (before columns : List ColumnDef) → AreColumns key serial before columns → All Filled columns
columns_filled key serial before [] are = tt
columns_filled key serial before (column ∷ columns) are =
    let first = are.0 in (
      record { named = name_is column.name first.named; cell = filled_cell column column.fill refl first.filled },
      columns_filled key serial (before ++ column ∷ []) columns are.2,
    )

table_whole : (before : List TableDef) (table : TableDef) → IsTable before table → Whole table
table_whole before table is = record {
  key = lt-ltb table.key (length table.columns) is.has_key;
  columns = columns_filled table.key table.serial [] table.columns is.columns;
  few = is.few;
}

tables_whole : (before tables : List TableDef) → AreTables before tables → All Whole tables
tables_whole before [] are = tt
tables_whole before (table ∷ tables) are = (table_whole before table are.0, tables_whole (before ++ table ∷ []) tables are.1)

-- ---- the table of a name

-- its number is that of a whole table
abbrev pub IsThere : List TableDef → ℕ × TableDef → Type 0
IsThere tables x = (slice_get tables x.0 ≡ Some x.1) × Whole x.1

found_if : (b : Truth) (table : TableDef) (tables : List TableDef) (k : ℕ) (rest : Option (ℕ × TableDef)) (x : ℕ × TableDef)
    → (if b then Some (k, table) else rest) ≡ Some x → Whole table
    → (rest ≡ Some x → (i : ℕ) × (x.0 ≡ suc k + i) × (slice_get tables i ≡ Some x.1) × Whole x.1)
    → (i : ℕ) × (x.0 ≡ k + i) × (slice_get (table ∷ tables) i ≡ Some x.1) × Whole x.1
found_if true table tables k rest x is whole others =
    let pair : (k, table) ≡ x = ap (λ (o : Option (ℕ × TableDef)). unwrap_or o x) is in
    let number : k ≡ x.0 = ap (λ (y : ℕ × TableDef). y.0) pair in
    (0, omega arith, ap (λ (y : ℕ × TableDef). Some y.1) pair, subst Whole (ap (λ (y : ℕ × TableDef). y.1) pair) whole)
found_if false table tables k rest x is whole others =
    let found = others is in
    let number = found.1 in
    (suc found.0, omega arith, found.2, found.3)

found_from : (tables : List TableDef) (k : ℕ) (name : List ℕ) (x : ℕ × TableDef) → All Whole tables → table_from k name tables ≡ Some x
    → (i : ℕ) × (x.0 ≡ k + i) × (slice_get tables i ≡ Some x.1) × Whole x.1
found_from [] k name x all is = absurd (none-some x is)
found_from (table ∷ tables) k name x all is =
    found_if (bytes_eq table.name name) table tables k (table_from (suc k) name tables) x is all.0 (found_from tables (suc k) name x all.1)

abbrev or_none : {A : Type 0} → Result A Fault → Option A
or_none (Ok x) = Some x
or_none (Err e) = None

named : (o : Option (ℕ × TableDef)) (name : List ℕ) (x : ℕ × TableDef) → no_table name o ≡ Ok x → o ≡ Some x
named None name x is = absurd (none-some x (ap or_none is))
named (Some y) name x is = ap or_none is

pub table_there : (tables : List TableDef) (name : List ℕ) (x : ℕ × TableDef) → AreAllowed tables → table_named tables name ≡ Ok x → IsThere tables x
table_there tables name x allowed is =
    let found = found_from tables 0 name x (tables_whole [] tables allowed.1) (named (table_from 0 name tables) name x is) in
    let number : x.0 ≡ found.0 = omega (arith, found.1) in
    (ap (slice_get tables) number ∙ found.2, found.3)
