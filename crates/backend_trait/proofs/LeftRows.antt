-- What a write leaves stands in its table: its cells have their types, it is no larger than a row may be, and it has its own key.
use Rattle.std.proofs.Common.{◌≡◌, ◌∙◌, ℕ, zero, suc, ℤ, pos, ◌+ℤ◌, ◌<◌, ◌≤◌, List, [], ◌∷◌, ◌++◌, map, set, length, refl, ap, sym, subst, inl, inr}
use Rattle.std.specs.Prelude.{◌&&◌, ◌==◌, ◌⊎◌, All, nat_lt, not, Bool as Truth, true, false, Option, Some, None, Ok, Err, slice_get, if◌then◌else◌}
use Rattle.std.specs.List.{AllByRecursion, list_all}
use Rattle.std.proofs.lemmas.Bool.{eqb-false}
use Rattle.std.proofs.lemmas.List.Elements.{All-from_recursion}
use Rattle.std.proofs.lemmas.Option.{none-some}
use Rattle.pg_values.specs.declared.col_type.ColType.{ColType}
use Rattle.pg_values.specs.declared.col_type.ColType.TheVariants.{Bool, Int4, Int8, Text, Moment}
use Rattle.pg_values.specs.declared.value.Value.{Value}
use Rattle.pg_values.specs.declared.value.Value.TheVariants as value
use Rattle.schema.specs.declared.catalogue.ColumnDef.{ColumnDef}
use Rattle.schema.specs.declared.catalogue.TableDef.{TableDef}
use Rattle.schema.specs.declared.catalogue.Fill.{Fill}
use Rattle.schema.specs.declared.catalogue.Fill.TheVariants as fill
use Rattle.schema.specs.Allowed.{AreAllowed, AreColumns, AreTables, IsFillOf}
use Rattle.typed_sql.specs.declared.asks.Takes.TheVariants.{Like}
use Rattle.typed_sql.specs.declared.typed.TypedExpr.{TypedExpr}
use Rattle.typed_sql.specs.Places.{are_alike}
use Rattle.catalogue.specs.declared.checked.TypedCell.{TypedCell}
use Rattle.catalogue.specs.declared.checked.TypedCell.TheVariants as cell
use Rattle.catalogue.specs.declared.checked.TypedSet.{TypedSet}
use Rattle.catalogue.specs.declared.checked.Checked.{Checked}
use Rattle.catalogue.specs.declared.checked.CheckedBody.{CheckedBody}
use Rattle.catalogue.specs.declared.checked.CheckedBody.TheVariants as body
use Rattle.catalogue.specs.declared.checked.CheckedChange.{CheckedChange}
use Rattle.catalogue.specs.declared.checked.CheckedInsert.{CheckedInsert}
use Rattle.catalogue.specs.declared.checked.CheckedRemove.{CheckedRemove}
use Rattle.catalogue.specs.declared.checked.ColumnDesc.{ColumnDesc}
use Rattle.checked_sql.specs.Sound.{are_fit, is_sound, is_value, stands}
use Rattle.checked_sql.specs.OfCatalogue.{are_apart, are_cells, around, is_body, is_cell, is_change, is_empty, is_filter, is_insert, is_now, is_of, is_serial, is_set, is_value_of, of_table}
use Rattle.sql_values.specs.Meaning.{value_in}
use Rattle.sql_eval.specs.declared.row.Row.{Row}
use Rattle.sql_eval.specs.declared.effect.Change.{Change}
use Rattle.sql_eval.specs.Views.{View, Entry, cell_at, columns_of, entries_in}
use Rattle.sql_eval.specs.Walks.{Coded, all_of, behind, made}
use Rattle.sql_eval.specs.Reads.{alone, at_row, fitting, is_kept, kept, no_row, read_in, row_of, row_size, where_kept}
use Rattle.sql_eval.specs.Stored.{as_column, as_kind, cells_set, change_in, change_of, changed, kind_at, lacks, not_lacking, null_refused, put_sets, removal_of, remove_in, removed, set_value, updated, updated_row}
use Rattle.sql_eval.specs.Effects.{Writes, given_by}
use Rattle.sql_eval.specs.Inserts.{all_draws, cell_value, cell_values, cells_given, draws_in, insert_in, is_spent, is_taken, last_serial, row_put_in, rows_given, serial_kind, unless_taken}
use Rattle.backend_trait.proofs.Tables.{all_any, read_is, rows_all, unspent, walked_all, written_is}
use Rattle.backend_trait.specs.Typed.{AreAllStored, IsChangeStored, IsOutcomeOf, IsStored, kinds_of}
use Rattle.backend_trait.proofs.Truths.{and_true, both_true, same_is}
use Rattle.backend_trait.proofs.Numbers.{WholeAt, no_number, narrow, wide, narrow_typed, whole_at}
use Rattle.backend_trait.proofs.Values.{value_typed}
use Rattle.backend_trait.proofs.Stood.{all_in}
use Rattle.backend_trait.proofs.Walks.{Gave, all_gave, all_true, behind_ok, fitting_is, given_is, is_there, some_is}

-- ---- a value in the type of its column

as_narrow : (l : ColType) (v : Value) → WholeAt l v → IsOutcomeOf Int4 (as_kind Int4 v)
as_narrow l v (no_number p) = subst (λ (x : Value). IsOutcomeOf Int4 (as_kind Int4 x)) (sym p) refl
as_narrow l v (narrow n kp p) = subst (λ (x : Value). IsOutcomeOf Int4 (as_kind Int4 x)) (sym p) refl
as_narrow l v (wide n kp p) = subst (λ (x : Value). IsOutcomeOf Int4 (as_kind Int4 x)) (sym p) (narrow_typed n)

as_wide : (l : ColType) (v : Value) → WholeAt l v → IsOutcomeOf Int8 (as_kind Int8 v)
as_wide l v (no_number p) = subst (λ (x : Value). IsOutcomeOf Int8 (as_kind Int8 x)) (sym p) refl
as_wide l v (narrow n kp p) = subst (λ (x : Value). IsOutcomeOf Int8 (as_kind Int8 x)) (sym p) refl
as_wide l v (wide n kp p) = subst (λ (x : Value). IsOutcomeOf Int8 (as_kind Int8 x)) (sym p) refl

as_kind_typed : (k l : ColType) (v : Value) → are_alike k l ≡ true → is_value l v ≡ true → IsOutcomeOf k (as_kind k v)
as_kind_typed Int4 l v alike is = as_narrow l v (whole_at l v alike is)
as_kind_typed Int8 l v alike is = as_wide l v (whole_at l v alike is)
as_kind_typed Bool l v alike is = ap (λ (c : ColType). is_value c v) (same_is Bool l alike) ∙ is
as_kind_typed Text l v alike is = ap (λ (c : ColType). is_value c v) (same_is Text l alike) ∙ is
as_kind_typed Moment l v alike is = ap (λ (c : ColType). is_value c v) (same_is Moment l alike) ∙ is

-- an expression in the type of its column
module _ (columns : List ColumnDef) (row : Row) (fit : are_fit (kinds_of columns) row.cells ≡ true) where
  put_typed : (k : ColType) (e : TypedExpr) (v : Value) → stands (around columns []) (Like k) e ≡ true
      → behind (value_in (at_row alone row) e) (as_kind k) ≡ Ok v → is_value k v ≡ true
  put_typed k e v stood given =
      let both = and_true (are_alike k e.kind) (is_sound (around columns []) e) stood in
      let one = behind_ok (value_in (at_row alone row) e) (as_kind k) v given in
      let typed : is_value e.kind one.0 ≡ true = subst (IsOutcomeOf e.kind) one.1 (value_typed columns row.cells fit e both.1) in
      subst (IsOutcomeOf k) one.2 (as_kind_typed k e.kind one.0 both.0 typed)

-- ---- tables that a schema can have

abbrev IsFilled : ColumnDef → Type 0
IsFilled column = IsFillOf column column.fill

columns_filled : (key : ℕ) (serial : Option ℕ) (before columns : List ColumnDef) → AreColumns key serial before columns → AllByRecursion IsFilled columns
columns_filled key serial before [] are = tt
columns_filled key serial before (column ∷ columns) are = let first = are.0 in (first.filled, columns_filled key serial (before ++ column ∷ []) columns are.2)

-- the columns of a table are filled by the rules, and its key is one of them
record IsWhole (table : TableDef) : Type 0 where
  filled : AllByRecursion IsFilled table.columns
  has_key : table.key < length table.columns

table_whole : (before tables : List TableDef) (n : ℕ) (table : TableDef) → AreTables before tables → slice_get tables n ≡ Some table → IsWhole table
table_whole before [] n table are is = absurd (cc)
table_whole before (t ∷ tables) zero table are is =
    let first = are.0 in
    subst IsWhole (some_is t table is) (record { filled = columns_filled t.key t.serial [] t.columns first.columns; has_key = first.has_key })
table_whole before (t ∷ tables) (suc n) table are is = table_whole (before ++ t ∷ []) tables n table are.1 is

-- ---- INSERT: the cells

serial_kind_is : (column : ColumnDef) (f : Fill) → IsFillOf column f → is_serial f ≡ true → (column.kind ≡ Int4) ⊎ (column.kind ≡ Int8)
serial_kind_is column fill.Serial filled is = filled.0
serial_kind_is column f filled is = absurd (let e : false ≡ true = is in cc)

now_kind_is : (column : ColumnDef) (f : Fill) → IsFillOf column f → is_now f ≡ true → column.kind ≡ Moment
now_kind_is column fill.Now filled is = filled
now_kind_is column f filled is = absurd (let e : false ≡ true = is in cc)

number_typed : (k : ColType) (next : ℤ) → (k ≡ Int4) ⊎ (k ≡ Int8) → IsOutcomeOf k (as_kind k (value.Int8 next))
number_typed k next (inl is) = subst (λ (c : ColType). IsOutcomeOf c (as_kind c (value.Int8 next))) (sym is) (narrow_typed next)
number_typed k next (inr is) = subst (λ (c : ColType). IsOutcomeOf c (as_kind c (value.Int8 next))) (sym is) refl

cell_typed : (column : ColumnDef) (next : ℤ) (c : TypedCell) (v : Value) → IsFilled column → is_cell [] column c ≡ true
    → cell_value alone column.kind next c ≡ Ok v → is_value column.kind v ≡ true
cell_typed column next cell.Serial v filled is given =
    subst (IsOutcomeOf column.kind) given (number_typed column.kind next (serial_kind_is column column.fill filled is))
cell_typed column next cell.Now v filled is given =
    subst (IsOutcomeOf column.kind) given (ap (λ (k : ColType). is_value k (value.Moment (pos 0))) (now_kind_is column column.fill filled is))
cell_typed column next (cell.Given e) v filled is given = put_typed [] no_row refl column.kind e v is given

cells_typed : (columns : List ColumnDef) (next : ℤ) (cells : List TypedCell) (values : List Value) → AllByRecursion IsFilled columns
    → are_cells [] columns cells ≡ true → all_of (cell_values alone columns next cells) ≡ Ok values → are_fit (kinds_of columns) values ≡ true
cells_typed [] next cells values filled are given = subst (λ (vs : List Value). are_fit [] vs ≡ true) (given_is [] values given) refl
cells_typed (column ∷ columns) next [] values filled are given = absurd (let e : false ≡ true = are in cc)
cells_typed (column ∷ columns) next (c ∷ cells) values filled are given =
    let both = and_true (is_cell [] column c) (are_cells [] columns cells) are in
    let told = all_of (cell_values alone columns (next +ℤ pos (draws_in c)) cells) in
    let one = behind_ok (cell_value alone column.kind next c) (λ a. made (λ others. a ∷ others) told) values given in
    let rest = behind_ok told (λ others. Ok (one.0 ∷ others)) values one.2 in
    subst (λ (vs : List Value). are_fit (kinds_of (column ∷ columns)) vs ≡ true) (given_is (one.0 ∷ rest.0) values rest.2)
    (both_true (is_value column.kind one.0) (are_fit (kinds_of columns) rest.0) (cell_typed column next c one.0 filled.0 both.0 one.1)
    (cells_typed columns (next +ℤ pos (draws_in c)) cells rest.0 filled.1 both.1 rest.1))

lacking_is : (columns : List ColumnDef) (cells given : List Value) → not_lacking columns cells ≡ Ok given → cells ≡ given
lacking_is columns cells given is = go (lacks columns cells) is
  where
    go : (b : Truth) → ◌≡◌ {A = Coded (List Value)} (if b then Err null_refused else Ok cells) (Ok given) → cells ≡ given
    go true h = absurd (cc)
    go false h = given_is cells given h

same_length : (columns : List ColumnDef) (cells : List Value) → are_fit (kinds_of columns) cells ≡ true → length cells ≡ length columns
same_length [] [] fit = refl
same_length [] (v ∷ cells) fit = absurd (let e : false ≡ true = fit in cc)
same_length (c ∷ columns) [] fit = absurd (let e : false ≡ true = fit in cc)
same_length (c ∷ columns) (v ∷ cells) fit = ap suc (same_length columns cells (and_true (is_value c.kind v) (are_fit (kinds_of columns) cells) fit).1)

-- ---- a row that is left in a table

module _ (tables : List TableDef) (number : ℕ) (table : TableDef) (found : slice_get tables number ≡ Some table) (whole : IsWhole table) where
  -- a change that leaves this row
  row_stored : (key : Value) (out : Row) (c : Change) → are_fit (kinds_of table.columns) out.cells ≡ true → row_size out ≤ 1048000
      → slice_get out.cells table.key ≡ Some key → changed number key (Some out) ≡ c → IsChangeStored tables c
  row_stored key out c fit small own is = subst (IsChangeStored tables) is (λ row left.
      subst (λ (r : Row). IsStored (slice_get tables number) key r) (some_is out row left)
      (subst (λ (t : Option TableDef). IsStored t key out) (sym found) (record { columns = fit; size = small; own = own })))

  taken_is : (b : Truth) (row out : Row) → unless_taken b row ≡ Ok out → fitting row ≡ Ok out
  taken_is true row out is = absurd (cc)
  taken_is false row out is = is

  put_stored : (view : View) (earlier : List Value) (next : ℤ) (cells : List TypedCell) → are_cells [] table.columns cells ≡ true → (c : Change)
      → row_put_in alone view number table.columns table.key earlier next cells ≡ Ok c → IsChangeStored tables c
  put_stored view earlier next cells are c given =
      let one = behind_ok (cells_given alone table.columns next cells) (λ values.
      made (λ row. changed number (cell_at table.key row) (Some row))
      (unless_taken (is_taken view number earlier (cell_at table.key (row_of values))) (row_of values))) c given in
      let row = row_of one.0 in
      let taken = is_taken view number earlier (cell_at table.key row) in
      let two = behind_ok (unless_taken taken row) (λ r. Ok (changed number (cell_at table.key r) (Some r))) c one.2 in
      let out = two.0 in
      let fits = fitting_is row out (taken_is taken row out two.1) in
      let three = behind_ok (all_of (cell_values alone table.columns next cells)) (not_lacking table.columns) one.0 one.1 in
      let fit : are_fit (kinds_of table.columns) one.0 ≡ true =
      subst (λ (vs : List Value). are_fit (kinds_of table.columns) vs ≡ true) (lacking_is table.columns three.0 one.0 three.2)
      (cells_typed table.columns next cells three.0 whole.filled are three.1) in
      let fit_out : are_fit (kinds_of table.columns) out.cells ≡ true = subst (λ (r : Row). are_fit (kinds_of table.columns) r.cells ≡ true) fits.0 fit in
      let below : table.key < length out.cells =
      subst (λ (n : ℕ). table.key < n) (sym (same_length table.columns out.cells fit_out)) whole.has_key in
      row_stored (cell_at table.key out) out c fit_out (subst (λ (r : Row). row_size r ≤ 1048000) fits.0 fits.1) (is_there out.cells table.key below)
      (given_is (changed number (cell_at table.key out) (Some out)) c two.2)

  -- ---- UPDATE

  set_fit : (columns : List ColumnDef) (cells : List Value) (at : ℕ) (column : ColumnDef) (v : Value) → are_fit (kinds_of columns) cells ≡ true
      → slice_get columns at ≡ Some column → is_value column.kind v ≡ true → are_fit (kinds_of columns) (set cells at v) ≡ true
  set_fit [] cells at column v fit is typed = absurd (cc)
  set_fit (c ∷ columns) [] at column v fit is typed = absurd (let e : false ≡ true = fit in cc)
  set_fit (c ∷ columns) (w ∷ cells) zero column v fit is typed =
      let both = and_true (is_value c.kind w) (are_fit (kinds_of columns) cells) fit in
      both_true (is_value c.kind v) (are_fit (kinds_of columns) cells) (ap (λ (d : ColumnDef). is_value d.kind v) (some_is c column is) ∙ typed) both.1
  set_fit (c ∷ columns) (w ∷ cells) (suc at) column v fit is typed =
      let both = and_true (is_value c.kind w) (are_fit (kinds_of columns) cells) fit in
      both_true (is_value c.kind w) (are_fit (kinds_of columns) (set cells at v)) both.0 (set_fit columns cells at column v both.1 is typed)

  set_other : (cells : List Value) (at key : ℕ) (v : Value) → (at ≡ key → ⊥) → slice_get (set cells at v) key ≡ slice_get cells key
  set_other [] at key v apart = refl
  set_other (w ∷ cells) zero zero v apart = absurd (apart refl)
  set_other (w ∷ cells) zero (suc key) v apart = refl
  set_other (w ∷ cells) (suc at) zero v apart = refl
  set_other (w ∷ cells) (suc at) (suc key) v apart = set_other cells at key v (λ e. apart (ap suc e))

  abbrev IsSetOf : TypedSet → Type 0
  IsSetOf s = is_set (around table.columns []) table s ≡ true

  not_true : (b : Truth) → not b ≡ true → b ≡ false
  not_true true e = absurd (let f : false ≡ true = e in cc)
  not_true false e = refl

  kind_there : (o : Option ColumnDef) (e : TypedExpr) → is_value_of (around table.columns []) o e ≡ true
      → (column : ColumnDef) × (o ≡ Some column) × (stands (around table.columns []) (Like column.kind) e ≡ true)
  kind_there None e is = absurd (let f : false ≡ true = is in cc)
  kind_there (Some column) e is = (column, refl, is)

  module _ (old : Row) (fit_old : are_fit (kinds_of table.columns) old.cells ≡ true) (key : Value) where
    put_sets_fit : (sets : List TypedSet) (values cells : List Value) → Gave (set_value alone table.columns old) sets values → AllByRecursion IsSetOf sets
        → are_fit (kinds_of table.columns) cells ≡ true → slice_get cells table.key ≡ Some key
        → (are_fit (kinds_of table.columns) (put_sets sets values cells) ≡ true) × (slice_get (put_sets sets values cells) table.key ≡ Some key)
    put_sets_fit [] values cells gave all fit own = (fit, own)
    put_sets_fit (s ∷ sets) [] cells gave all fit own = elim gave [ ]
    put_sets_fit (s ∷ sets) (v ∷ values) cells gave all fit own =
        let both = and_true (not (s.column == table.key)) (is_value_of (around table.columns []) (slice_get table.columns s.column) s.expr) all.0 in
        let there = kind_there (slice_get table.columns s.column) s.expr both.1 in
        let apart = eqb-false s.column table.key (not_true (s.column == table.key) both.0) in
        let at_kind : kind_at table.columns s.column ≡ Some (there.0).kind =
        ap (λ (o : Option ColumnDef). elim o as (λ x. Option ColType) [ None ↦ None | Some c ↦ Some c.kind ]) there.1 in
        let given : behind (value_in (at_row alone old) s.expr) (as_kind (there.0).kind) ≡ Ok v =
        ap (λ (o : Option ColType). behind (value_in (at_row alone old) s.expr) (as_column o)) (sym at_kind) ∙ gave.0 in
        let typed = put_typed table.columns old fit_old (there.0).kind s.expr v there.2 given in
        put_sets_fit sets values (set cells s.column v) gave.1 all.1 (set_fit table.columns cells s.column there.0 v fit there.1 typed)
        (set_other cells s.column table.key v apart ∙ own)

    updated_stored : (sets : List TypedSet) (out : Row) → AllByRecursion IsSetOf sets → slice_get old.cells table.key ≡ Some key
        → updated_row alone table.columns sets old ≡ Ok out
        → (are_fit (kinds_of table.columns) out.cells ≡ true) × (row_size out ≤ 1048000) × (slice_get out.cells table.key ≡ Some key)
    updated_stored sets out all own given =
        let f = set_value alone table.columns old in
        let one = behind_ok (cells_set alone table.columns sets old) (λ cells. behind (not_lacking table.columns cells) (λ cells. fitting (row_of cells))) out given in
        let two = behind_ok (not_lacking table.columns one.0) (λ cells. fitting (row_of cells)) out one.2 in
        let same = lacking_is table.columns one.0 two.0 two.1 in
        let fits = fitting_is (row_of two.0) out two.2 in
        let three = behind_ok (all_of (map f sets)) (λ values. Ok (put_sets sets values old.cells)) one.0 one.1 in
        let put = put_sets_fit sets three.0 old.cells (all_gave f sets three.0 three.1) all fit_old own in
        let cells_are : put_sets sets three.0 old.cells ≡ two.0 = given_is (put_sets sets three.0 old.cells) one.0 three.2 ∙ same in
        let fit : are_fit (kinds_of table.columns) two.0 ≡ true = subst (λ (vs : List Value). are_fit (kinds_of table.columns) vs ≡ true) cells_are put.0 in
        let has : slice_get two.0 table.key ≡ Some key = subst (λ (vs : List Value). slice_get vs table.key ≡ Some key) cells_are put.1 in (
          subst (λ (r : Row). are_fit (kinds_of table.columns) r.cells ≡ true) fits.0 fit,
          subst (λ (r : Row). row_size r ≤ 1048000) fits.0 fits.1,
          subst (λ (r : Row). slice_get r.cells table.key ≡ Some key) fits.0 has,
        )

-- ---- the whole

pub kept_same : (filter : Option TypedExpr) (e x : Entry) → kept alone filter e ≡ Ok (Some x) → e ≡ x
kept_same filter e x is = let one = behind_ok (is_kept alone filter e.row) (λ b. Ok (where_kept e b)) (Some x) is in go one.0 one.2
  where
    go : (b : Truth) → ◌≡◌ {A = Coded (Option Entry)} (Ok (where_kept e b)) (Ok (Some x)) → e ≡ x
    go true h = some_is e x (given_is (Some e) (Some x) h)
    go false h = absurd (cc)

module _ (tables : List TableDef) (table : TableDef) (whole : IsWhole table) where
  insert_stored : (insert : CheckedInsert) → slice_get tables insert.table ≡ Some table → is_insert [] table insert ≡ true → (view : View) (next : ℤ) (cs : List Change)
      → insert_in alone view (Some table) next insert ≡ Ok cs → AllByRecursion (IsChangeStored tables) cs
  insert_stored insert found is view next cs given =
      let few = (and_true (not (is_empty insert.rows)) (nat_lt (length insert.rows) 4294967296 && list_all (are_cells [] table.columns) insert.rows) is).1 in
      let all = (and_true (nat_lt (length insert.rows) 4294967296) (list_all (are_cells [] table.columns) insert.rows) few).1 in
      rows_all alone view insert.table table.columns table.key (IsChangeStored tables) (λ cells. are_cells [] table.columns cells ≡ true)
      (put_stored tables insert.table table found whole view) insert.rows [] next cs (all_true (are_cells [] table.columns) insert.rows all)
      (unspent (is_spent (last_serial (serial_kind (Some table))) next (all_draws insert.rows))
      (rows_given alone view insert.table table.columns table.key [] next insert.rows) cs given)

  module _ (change : CheckedChange) (found : slice_get tables change.table ≡ Some table) (is : is_change [] table change ≡ true) where
    abbrev IsHere : Entry → Type 0
    IsHere e = IsStored (slice_get tables change.table) e.key e.row

    sets_are : AllByRecursion (IsSetOf tables change.table table found whole) change.sets
    sets_are =
        let apart = (and_true (not (is_empty change.sets)) _ is).1 in
        let sets = (and_true (are_apart change.sets) _ apart).1 in
        all_true (is_set (around table.columns []) table) change.sets
        (and_true (list_all (is_set (around table.columns []) table) change.sets) (is_filter (around table.columns []) change.filter) sets).0

    changed_stored : (e : Entry) (c : Change) → IsHere e → (o : Option Entry) → kept alone change.filter e ≡ Ok o
        → updated alone table.columns change o ≡ Ok (Some c) → IsChangeStored tables c
    changed_stored e c here None keeps given = absurd (cc)
    changed_stored e c here (Some x) keeps given =
        let here_x = subst IsHere (kept_same change.filter e x keeps) here in
        let stood : IsStored (Some table) x.key x.row = subst (λ (t : Option TableDef). IsStored t x.key x.row) found here_x in
        let one = behind_ok (updated_row alone table.columns change.sets x.row) (λ row. Ok (Some (changed change.table x.key (Some row)))) (Some c) given in
        let left = updated_stored tables change.table table found whole x.row stood.columns x.key change.sets one.0 sets_are stood.own one.1 in
        row_stored tables change.table table found whole x.key one.0 c left.0 left.1 left.2
        (some_is (changed change.table x.key (Some one.0)) c (given_is (Some (changed change.table x.key (Some one.0))) (Some c) one.2))

    change_stored : (view : View) (cs : List Change) → AllByRecursion IsHere (entries_in view change.table) → change_in alone view table.columns change ≡ Ok cs
        → AllByRecursion (IsChangeStored tables) cs
    change_stored view cs stored given =
        walked_all (change_of alone table.columns change) IsHere (IsChangeStored tables) (λ e here c told.
        let one = behind_ok (kept alone change.filter e) (updated alone table.columns change) (Some c) told in
        changed_stored e c here one.0 one.1 one.2) (entries_in view change.table) cs stored given

module _ (tables : List TableDef) (remove : CheckedRemove) where
  removed_stored : (o : Option Entry) (c : Change) → ◌≡◌ {A = Coded (Option Change)} (Ok (removed remove.table o)) (Ok (Some c)) → IsChangeStored tables c
  removed_stored None c is = absurd (cc)
  removed_stored (Some x) c is =
      subst (IsChangeStored tables)
      (some_is (changed remove.table x.key None) c (given_is (Some (changed remove.table x.key None)) (Some c) is)) (λ row left. absurd (none-some row left))

  remove_stored : (view : View) (cs : List Change) → remove_in alone view remove ≡ Ok cs → AllByRecursion (IsChangeStored tables) cs
  remove_stored view cs given =
      walked_all (removal_of alone remove) (λ e. Unit {0}) (IsChangeStored tables) (λ e any c told.
      let one = behind_ok (kept alone remove.filter e) (λ o. Ok (removed remove.table o)) (Some c) told in
      removed_stored one.0 c one.2) (entries_in view remove.table) cs (all_any (entries_in view remove.table)) given

module _ (tables : List TableDef) (allowed : AreAllowed tables) (view : View) (stored : AreAllStored tables view) (next : ℤ) (cs : List Change) where
  insert_of : (insert : CheckedInsert) (o : Option TableDef) → slice_get tables insert.table ≡ o → of_table (is_insert []) o insert ≡ true
      → insert_in alone view o next insert ≡ Ok cs → AllByRecursion (IsChangeStored tables) cs
  insert_of insert None found is given = absurd (let e : false ≡ true = is in cc)
  insert_of insert (Some table) found is given =
      insert_stored tables table (table_whole [] tables insert.table table allowed.1 found) insert found is view next cs given

  change_of_table : (change : CheckedChange) (o : Option TableDef) → slice_get tables change.table ≡ o → of_table (is_change []) o change ≡ true
      → change_in alone view (columns_of o) change ≡ Ok cs → AllByRecursion (IsChangeStored tables) cs
  change_of_table change None found is given = absurd (let e : false ≡ true = is in cc)
  change_of_table change (Some table) found is given =
      change_stored tables table (table_whole [] tables change.table table allowed.1 found) change found is view cs (all_in tables view change.table stored) given

  body_stored : (b : CheckedBody) (columns : List ColumnDesc) → is_body tables [] b columns ≡ true → given_by alone tables b view next ≡ Ok (Writes cs)
      → AllByRecursion (IsChangeStored tables) cs
  body_stored (body.Read read) columns is given = read_is (read_in alone view read) cs given
  body_stored (body.Insert insert) columns is given =
      insert_of insert (slice_get tables insert.table) refl (and_true (is_empty columns) (of_table (is_insert []) (slice_get tables insert.table) insert) is).1
      (written_is (insert_in alone view (slice_get tables insert.table) next insert) cs given)
  body_stored (body.Change change) columns is given =
      change_of_table change (slice_get tables change.table) refl (and_true (is_empty columns) (of_table (is_change []) (slice_get tables change.table) change) is).1
      (written_is (change_in alone view (columns_of (slice_get tables change.table)) change) cs given)
  body_stored (body.Remove remove) columns is given = remove_stored tables remove view cs (written_is (remove_in alone view remove) cs given)

pub all_stored : (tables : List TableDef) (checked : Checked) (view : View) (next : ℤ) (cs : List Change) → AreAllowed tables → is_of tables checked ≡ true
    → checked.kinds ≡ [] → AreAllStored tables view → given_by alone tables checked.body view next ≡ Ok (Writes cs) → All (IsChangeStored tables) cs
all_stored tables checked view next cs allowed is bound stored given =
    All-from_recursion (IsChangeStored tables) cs
    (body_stored tables allowed view stored next cs checked.body checked.columns
    (subst (λ (kinds : List ColType). is_body tables kinds checked.body checked.columns ≡ true) bound is) given)
