-- The values of literals are of their types and in their ranges, and columns that are meant are there.
use Rattle.std.proofs.Common.{◌≡◌, ◌∙◌, ℕ, zero, suc, ◌+◌, ℤ, List, [], ◌∷◌, refl, ap, arith}
use Rattle.std.specs.Prelude.{not, T, Bool as Truth, true, false, Option, Some, None, Result, Ok, Err, pos, neg_ℤ, slice_get, unwrap_or, bytes_eq, if◌then◌else◌}
use Rattle.std.specs.Int.Signed.{le_z}
use Rattle.std.proofs.Math.Dec.{eqb-suc-zero}
use Rattle.std.proofs.lemmas.Option.{none-some}
use Rattle.pg_values.specs.declared.col_type.ColType.{ColType}
use Rattle.pg_values.specs.declared.col_type.ColType.TheVariants as kind
use Rattle.pg_values.specs.declared.value.Value.{Value}
use Rattle.pg_values.specs.Answers.{ReadsText}
use Rattle.pg_values.specs.Range.{IsMoment, HasNoZero}
use Rattle.pg_values.specs.Moments.{moment_of}
use Rattle.schema.specs.declared.catalogue.ColumnDef.{ColumnDef}
use Rattle.schema.specs.declared.catalogue.TableDef.{TableDef}
use Rattle.sql_tree.specs.Trees.{IsString}
use Rattle.typed_sql.specs.Own.{Scope, column_from, column_of, column_meant, no_column, no_table, wrong_table}
use Rattle.typed_sql.specs.Steps.{Fault}
use Rattle.checked_sql.specs.Sound.{has_column, has_no_zero, is_column, is_moment, is_some_byte, is_value}
use Rattle.checked_sql.proofs.Kept.{both_true}
use Rattle.statement_laws.proofs.KnownTypes.{same_refl}

-- ---- values

pub is_true : (b : Truth) → T b → b ≡ true
is_true true t = refl
is_true false t = absurd t

some_byte : (b : ℕ) → ¬ (b ≡ 0) → is_some_byte b ≡ true
some_byte zero other = absurd (other refl)
some_byte (suc b) other = ap not (eqb-suc-zero b)

pub no_zero : (text : List ℕ) → HasNoZero text → has_no_zero text ≡ true
no_zero [] all = refl
no_zero (b ∷ text) all = both_true (is_some_byte b) (has_no_zero text) (some_byte b (all 0 b (omega arith))) (no_zero text (λ k d below. all (suc k) d (omega arith)))

pub moment_in_range : (micros : ℤ) → IsMoment micros → is_moment micros ≡ true
moment_in_range micros within =
    both_true (le_z (neg_ℤ (pos 63_082_281_600_000_000)) micros) (le_z micros (pos 252_455_615_999_999_999)) (is_true _ (within.0).le) (is_true _ (within.1).le)

-- what is read of a text is of the type and in its range
pub value_read : (kind : ColType) (text : List ℕ) (v : Value) → ReadsText kind text v → is_value kind v ≡ true
value_read kind.Bool text v reads = ap (is_value kind.Bool) reads.1.2
value_read kind.Int4 text v reads = ap (is_value kind.Int4) reads.1.3
value_read kind.Int8 text v reads = ap (is_value kind.Int8) reads.1.3
value_read kind.Text text v reads = ap (is_value kind.Text) reads.1 ∙ no_zero text reads.0.1
value_read kind.Moment text v reads = ap (is_value kind.Moment) reads.1.4 ∙ moment_in_range (moment_of reads.1.0) reads.1.3

-- ---- columns

-- the columns that may be named
abbrev pub columns_of : Option TableDef → Truth → List ColumnDef
columns_of None may = []
columns_of (Some table) true = table.columns
columns_of (Some table) false = []

abbrev pub columns_in : Scope → List ColumnDef
columns_in scope = columns_of scope.table scope.columns

-- a column of a name has its number
found_if : (b : Truth) (column : ColumnDef) (columns : List ColumnDef) (k : ℕ) (rest : Option (ℕ × ColumnDef)) (x : ℕ × ColumnDef)
    → (if b then Some (k, column) else rest) ≡ Some x
    → (rest ≡ Some x → (i : ℕ) × (x.0 ≡ suc k + i) × (slice_get columns i ≡ Some x.1))
    → (i : ℕ) × (x.0 ≡ k + i) × (slice_get (column ∷ columns) i ≡ Some x.1)
found_if true column columns k rest x is others =
    let pair : (k, column) ≡ x = ap (λ (o : Option (ℕ × ColumnDef)). unwrap_or o x) is in
    let number : k ≡ x.0 = ap (λ (y : ℕ × ColumnDef). y.0) pair in
    (0, omega arith, ap (λ (y : ℕ × ColumnDef). Some y.1) pair)
found_if false column columns k rest x is others =
    let found = others is in
    let number = found.1 in
    (suc found.0, omega arith, found.2)

found_from : (columns : List ColumnDef) (k : ℕ) (name : List ℕ) (x : ℕ × ColumnDef) → column_from k name columns ≡ Some x
    → (i : ℕ) × (x.0 ≡ k + i) × (slice_get columns i ≡ Some x.1)
found_from [] k name x is = absurd (none-some x is)
found_from (column ∷ columns) k name x is =
    found_if (bytes_eq column.name name) column columns k (column_from (suc k) name columns) x is (found_from columns (suc k) name x)

there_from : (columns : List ColumnDef) (name : List ℕ) (x : ℕ × ColumnDef) → column_from 0 name columns ≡ Some x → slice_get columns x.0 ≡ Some x.1
there_from columns name x is =
    let found = found_from columns 0 name x is in
    let number : x.0 ≡ found.0 = omega (arith, found.1) in
    ap (slice_get columns) number ∙ found.2

there_of : (table : Option TableDef) (may : Truth) (name : List ℕ) (x : ℕ × ColumnDef) → column_of table may name ≡ Some x → slice_get (columns_of table may) x.0 ≡ Some x.1
there_of None may name x is = absurd (none-some x is)
there_of (Some table) true name x is = there_from table.columns name x is
there_of (Some table) false name x is = absurd (none-some x is)

abbrev or_none : {A : Type 0} → Result A Fault → Option A
or_none (Ok x) = Some x
or_none (Err e) = None

meant : (column : Option (ℕ × ColumnDef)) (name : List ℕ) (wrong : Option (List ℕ)) (x : ℕ × ColumnDef) → no_table (no_column name column) wrong ≡ Ok x → column ≡ Some x
meant None name None x is = absurd (none-some x (ap or_none is))
meant (Some y) name None x is = ap or_none is
meant column name (Some qualifier) x is = absurd (none-some x (ap or_none is))

-- a column that is meant is there
pub column_there : (scope : Scope) (qualifier : Option (List ℕ)) (name : List ℕ) (x : ℕ × ColumnDef) → column_meant scope qualifier name ≡ Ok x
    → slice_get (columns_in scope) x.0 ≡ Some x.1
column_there scope qualifier name x is =
    there_of scope.table scope.columns name x (meant (column_of scope.table scope.columns name) name (wrong_table scope.table qualifier) x is)

pub column_is : (scope : Scope) (qualifier : Option (List ℕ)) (name : List ℕ) (x : ℕ × ColumnDef) → column_meant scope qualifier name ≡ Ok x
    → is_column (columns_in scope) x.0 (x.1).kind ≡ true
column_is scope qualifier name x is = ap (has_column (x.1).kind) (column_there scope qualifier name x is) ∙ same_refl (x.1).kind

-- a text that a string can hold
pub plain : (text : List ℕ) → IsString text → HasNoZero text
plain text all k d below zero_is = let some = all k d below in absurd (omega arith)
