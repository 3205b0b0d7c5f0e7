-- The statements of a copy can be run by a store of the tables.
use Rattle.std.proofs.Common.{◌≡◌, ◌∙◌, ◌<◌, ◌≤◌, ◌+◌, ℕ, zero, suc, List, [], ◌∷◌, ◌++◌, length, map, Some, refl, sym, ap, subst, arith}
use Rattle.std.specs.Prelude.{◌&&◌, ◌==◌, ◌-◌, not, nat_lt, Bool as Truth, true, false, Option, slice_get}
use Rattle.std.specs.List.{list_all}
use Rattle.std.proofs.lemmas.Bool.{eq-eqb, eqb-true, lt-ltb}
use Rattle.pg_values.specs.declared.col_type.ColType.{ColType}
use Rattle.pg_values.specs.declared.col_type.ColType.TheVariants.{Bool, Int4, Int8, Text, Moment}
use Rattle.pg_values.specs.declared.value.Value.{Value}
use Rattle.schema.specs.declared.catalogue.ColumnDef.{ColumnDef}
use Rattle.schema.specs.declared.catalogue.TableDef.{TableDef}
use Rattle.schema.specs.Allowed.{AreAllowed, AreColumns, AreTables, HasNoZero, IsName}
use Rattle.typed_sql.specs.declared.asks.Takes.TheVariants.{Like}
use Rattle.typed_sql.specs.declared.typed.TypedForm.TheVariants as form
use Rattle.typed_sql.specs.Places.{same_kind, takes as takes_kind}
use Rattle.typed_sql.specs.Typing.{typed, literal}
use Rattle.catalogue.specs.Statements.{columns_from, column_desc}
use Rattle.checked_sql.specs.Sound.{Names, are_fit, form_in, has_column, has_no_zero, is_column, is_some_byte, is_sound, is_value, stands}
use Rattle.checked_sql.specs.OfCatalogue.{are_cells, are_results, around, is_empty, is_list, is_name, is_of}
use Rattle.checked_sql.proofs.Forms.{sound_by_form, gives_column, fits_column, gives_literal, fits_literal}
use Rattle.checked_sql.proofs.Kept.{and_true, both_true}
use Rattle.time_rewrite.specs.Timeless.{timeless_cell, timeless_expr}
use Rattle.backend_trait.specs.Typed.{AreAllStored, is_row_of, kinds_of}
use Rattle.sql_eval.specs.declared.row.Row.{Row}
use Rattle.sql_eval.specs.Inserts.{all_draws}
use Rattle.sql_eval.specs.Views.{columns_of}
use Rattle.backend_trait.specs.Rows.{Rows}
use Rattle.backend_trait.specs.Runnable.{IsRunnable}
use Rattle.backend_trait.proofs.TimelessForms.{by_form, timeless_column, timeless_literal}
use Rattle.online_recovery.specs.Copies.{all_rows_in, all_rows_of, cells_of, no_rows_in, row_in, row_into, row_of}
use Rattle.recovery_laws.specs.Copied.{rows_copied}
use Rattle.recovery_laws.proofs.Drawing.{none_drawn}
use Rattle.recovery_laws.proofs.Filled.{all_own, at_index, is_there, next_is}
use Rattle.recovery_laws.proofs.Seeking.{IsOwn}

-- The table of a number.

-- what a catalogue says of a table, wherever it stands
record Fits (table : TableDef) : Type 0 where
  before : List ColumnDef
  columns : AreColumns table.key table.serial before table.columns
  has_key : table.key < length table.columns
  few : length table.columns ≤ 32

table_fits : (before tables : List TableDef) (n : ℕ) (table : TableDef) → AreTables before tables → slice_get tables n ≡ Some table → Fits table
table_fits before [] n table are is = absurd (cc)
table_fits before (first ∷ tables) zero table are is =
    let same : first ≡ table = cc in
    subst Fits same (record { before = []; columns = are.0.columns; has_key = are.0.has_key; few = are.0.few })
table_fits before (first ∷ tables) (suc n) table are is = table_fits (before ++ first ∷ []) tables n table are.1 is

-- Columns.

same_refl : (kind : ColType) → same_kind kind kind ≡ true
same_refl Bool = refl
same_refl Int4 = refl
same_refl Int8 = refl
same_refl Text = refl
same_refl Moment = refl

alike_refl : (kind : ColType) → takes_kind (Like kind) kind ≡ true
alike_refl Bool = refl
alike_refl Int4 = refl
alike_refl Int8 = refl
alike_refl Text = refl
alike_refl Moment = refl

column_sound : (names : Names) (kind : ColType) (n : ℕ) → is_column names.columns n kind ≡ true → is_sound names (typed kind (form.Column n)) ≡ true
column_sound names kind n is =
    let e = typed kind (form.Column n) in
    sound_by_form names e ∙ both_true ((form_in names e.form).gives kind) (form_in names e.form).fits
    (gives_column names (form.Column n) kind n refl ∙ is) (fits_column names (form.Column n) n refl)

columns_sound : (names : Names) (columns : List ColumnDef) (k : ℕ) → ((i : ℕ) (c : ColumnDef) → slice_get columns i ≡ Some c → slice_get names.columns (k + i) ≡ Some c)
    → list_all (is_sound names) (columns_from k columns) ≡ true
columns_sound names [] k at = refl
columns_sound names (column ∷ columns) k at =
    let same : k + 0 ≡ k = omega arith in
    let there : slice_get names.columns k ≡ Some column = subst (λ (m : ℕ). slice_get names.columns m ≡ Some column) same (at 0 column refl) in
    both_true (is_sound names (typed column.kind (form.Column k))) (list_all (is_sound names) (columns_from (suc k) columns))
    (column_sound names column.kind k (ap (has_column column.kind) there ∙ same_refl column.kind))
    (columns_sound names columns (suc k) (λ i c is.
    let next : k + suc i ≡ suc k + i = omega arith in
    subst (λ (m : ℕ). slice_get names.columns m ≡ Some c) next (at (suc i) c is)))

columns_long : (columns : List ColumnDef) (k : ℕ) → length (columns_from k columns) ≡ length columns
columns_long [] k = refl
columns_long (column ∷ columns) k = ap suc (columns_long columns (suc k))

timeless_columns : (columns : List ColumnDef) (k : ℕ) → list_all timeless_expr (columns_from k columns) ≡ true
timeless_columns [] k = refl
timeless_columns (column ∷ columns) k =
    both_true (timeless_expr (typed column.kind (form.Column k))) (list_all timeless_expr (columns_from (suc k) columns))
    (by_form (typed column.kind (form.Column k)) ∙ timeless_column (form.Column k) k refl) (timeless_columns columns (suc k))

-- their names

some_byte : (b : ℕ) → 0 < b → is_some_byte b ≡ true
some_byte b h = go (b == 0) refl
  where
    go : (is : Truth) → (b == 0) ≡ is → not is ≡ true
    go true same = let none : b ≡ 0 = eqb-true b 0 same in absurd (omega arith)
    go false same = refl

no_zero : (text : List ℕ) → HasNoZero text → has_no_zero text ≡ true
no_zero [] is = refl
no_zero (b ∷ text) is = both_true (is_some_byte b) (has_no_zero text) (some_byte b is.0) (no_zero text is.1)

name_is : (text : List ℕ) → IsName text → is_name text ≡ true
name_is [] is = absurd (let some = is.0 in omega arith)
name_is (b ∷ text) is = no_zero (b ∷ text) is.2

results_are : (key : ℕ) (serial : Option ℕ) (before columns : List ColumnDef) (k : ℕ) → AreColumns key serial before columns
    → are_results (columns_from k columns) (map (λ c. column_desc c.name c.kind) columns) ≡ true
results_are key serial before [] k are = refl
results_are key serial before (column ∷ columns) k are =
    both_true (same_kind column.kind column.kind && is_name column.name) (are_results (columns_from (suc k) columns) (map (λ c. column_desc c.name c.kind) columns))
    (both_true (same_kind column.kind column.kind) (is_name column.name) (same_refl column.kind) (name_is column.name are.0.named))
    (results_are key serial (before ++ column ∷ []) columns (suc k) are.2)

some_item : {A : Type 0} (xs : List A) → 1 ≤ length xs → not (is_empty xs) ≡ true
some_item [] h = absurd (omega arith)
some_item (x ∷ xs) h = refl

-- SELECT * FROM table.

rows_of : (tables : List TableDef) (n : ℕ) (table : TableDef) → slice_get tables n ≡ Some table → Fits table → is_of tables (all_rows_of n (Some table)) ≡ true
rows_of tables n table is fits =
    let names = around table.columns [] in
    let list = columns_from 0 table.columns in
    let long : length list ≡ length table.columns = columns_long table.columns 0 in
    let key = fits.has_key in
    let few = fits.few in
    let listed : is_list names list ≡ true =
    both_true (not (is_empty list)) (nat_lt (length list) 1665 && list_all (is_sound names) list) (some_item list (omega arith))
    (both_true (nat_lt (length list) 1665) (list_all (is_sound names) list) (lt-ltb (length list) 1665 (omega arith)) (columns_sound names table.columns 0 (λ i c e. let first : i ≡ 0 + i = omega arith in subst (λ (m : ℕ). slice_get table.columns m ≡ Some c) first e))) in
    let order : ((nat_lt table.key (length table.columns) && true) && ((table.key == table.key) && true)) ≡ true =
    both_true (nat_lt table.key (length table.columns) && true) ((table.key == table.key) && true)
    (both_true (nat_lt table.key (length table.columns)) true (lt-ltb table.key (length table.columns) key) refl)
    (both_true (table.key == table.key) true (eq-eqb table.key table.key refl) refl) in
    rw is (both_true (is_list names list) _ listed
    (both_true (are_results list (map (λ c. column_desc c.name c.kind) table.columns)) _ (results_are table.key table.serial fits.before table.columns 0 fits.columns)
    (both_true ((nat_lt table.key (length table.columns) && true) && ((table.key == table.key) && true)) true order refl)))

rows_run : (tables : List TableDef) (n : ℕ) (table : TableDef) → AreAllowed tables → slice_get tables n ≡ Some table → IsRunnable tables (all_rows_in tables n)
rows_run tables n table allowed is =
    subst (λ (t : Option TableDef). IsRunnable tables (all_rows_of n t)) (sym is)
    (record {
      of_tables = rows_of tables n table is (table_fits [] tables n table allowed.1 is);
      bound = refl;
      timeless = both_true (list_all timeless_expr (columns_from 0 table.columns)) true (timeless_columns table.columns 0) refl;
      few = tt;
    })

-- DELETE FROM table.

none_run : (tables : List TableDef) (n : ℕ) (table : TableDef) → slice_get tables n ≡ Some table → IsRunnable tables (no_rows_in n)
none_run tables n table is = record { of_tables = rw is refl; bound = refl; timeless = refl; few = tt }

-- INSERT of a row.

literal_sound : (names : Names) (kind : ColType) (v : Value) → is_value kind v ≡ true → is_sound names (literal kind v) ≡ true
literal_sound names kind v is =
    let e = literal kind v in
    sound_by_form names e ∙ both_true ((form_in names e.form).gives kind) (form_in names e.form).fits
    (gives_literal names (form.Literal v) kind v refl ∙ is) (fits_literal names (form.Literal v) v refl)

cells_are : (columns : List ColumnDef) (values : List Value) → are_fit (kinds_of columns) values ≡ true → are_cells [] columns (cells_of columns values) ≡ true
cells_are [] [] is = refl
cells_are [] (v ∷ values) is = absurd (cc)
cells_are (column ∷ columns) [] is = absurd (cc)
cells_are (column ∷ columns) (v ∷ values) is =
    let both = and_true (is_value column.kind v) (are_fit (kinds_of columns) values) is in
    let e = literal column.kind v in
    both_true (stands (around [] []) (Like column.kind) e) (are_cells [] columns (cells_of columns values))
    (both_true (takes_kind (Like column.kind) column.kind) (is_sound (around [] []) e) (alike_refl column.kind) (literal_sound (around [] []) column.kind v both.0))
    (cells_are columns values both.1)

timeless_cells : (columns : List ColumnDef) (values : List Value) → list_all timeless_cell (cells_of columns values) ≡ true
timeless_cells [] values = refl
timeless_cells (column ∷ columns) [] = refl
timeless_cells (column ∷ columns) (v ∷ values) =
    both_true (timeless_expr (literal column.kind v)) (list_all timeless_cell (cells_of columns values))
    (by_form (literal column.kind v) ∙ timeless_literal (form.Literal v) v refl) (timeless_cells columns values)

row_runs : (tables : List TableDef) (n : ℕ) (table : TableDef) (row : Row) → slice_get tables n ≡ Some table → is_row_of table.columns row ≡ true
    → IsRunnable tables (row_into tables n row.cells)
row_runs tables n table row is fit =
    let cells = cells_of table.columns row.cells in
    let none : all_draws (cells ∷ []) ≡ 0 = none_drawn table.columns row.cells in
    subst (λ (t : Option TableDef). IsRunnable tables (row_of n t row.cells)) (sym is)
    (record {
      of_tables = rw is (both_true (are_cells [] table.columns cells) true (cells_are table.columns row.cells fit) refl);
      bound = refl;
      timeless = both_true (list_all timeless_cell cells) true (timeless_cells table.columns row.cells) refl;
      few = (let few : all_draws (cells ∷ []) < 4294967296 = omega arith in few);
    })

-- ---- by the number of the table

table_at : (tables : List TableDef) (n : ℕ) → n < length tables → (table : TableDef) × (slice_get tables n ≡ Some table)
table_at [] n below = absurd (omega arith)
table_at (table ∷ tables) zero below = (table, refl)
table_at (table ∷ tables) (suc n) below = table_at tables n (omega arith)

pub reads_run : (tables : List TableDef) (n : ℕ) → AreAllowed tables → n < length tables → IsRunnable tables (all_rows_in tables n)
reads_run tables n allowed below = let here = table_at tables n below in rows_run tables n here.0 allowed here.1

pub deletes_run : (tables : List TableDef) (n : ℕ) → n < length tables → IsRunnable tables (no_rows_in n)
deletes_run tables n below = let here = table_at tables n below in none_run tables n here.0 here.1

pub inserts_run : (tables : List TableDef) (n left : ℕ) (source : Rows) (rows : List Row) → n < length tables → AreAllStored tables source → rows ≡ rows_copied tables source n
    → left < length rows → IsRunnable tables (row_into tables n (row_in rows left))
inserts_run tables n left source rows known stored are below =
    let here = table_at tables n known in
    let within : length rows - suc left < length rows = omega arith in
    let next = is_there rows (length rows - suc left) within in
    let own = at_index (IsOwn (slice_get tables n)) rows (length rows - suc left) next.0 (all_own tables source n rows stored are) next.1 in
    subst (λ (values : List Value). IsRunnable tables (row_into tables n values)) (sym (next_is rows left next.0 next.1))
    (row_runs tables n here.0 next.0 here.1 (subst (λ (t : Option TableDef). is_row_of (columns_of t) next.0 ≡ true) here.1 own.columns))
