-- What a check makes of a spelled INSERT, UPDATE or DELETE has the effect of the statement that was spelled.
use Rattle.std.proofs.Common.{◌≡◌, ◌∙◌, ℕ, zero, suc, ◌+◌, ◌<◌, List, [], ◌∷◌, ◌++◌, length, map, set, refl, ap, sym, subst, arith, append_assoc}
use Rattle.std.specs.Prelude.{◌&&◌, ◌||◌, ◌==◌, not, nat_lt, Bool as Truth, true, false, Option, Some, None, Ok, Err, option_map, slice_get, codes, if◌then◌else◌}
use Rattle.std.specs.List.{list_all, list_any}
use Rattle.std.proofs.lemmas.Bool.{eq-eqb, eqb-true}
use Rattle.std.proofs.lemmas.Option.{none-some}
use Rattle.pg_values.specs.declared.col_type.ColType.{ColType}
use Rattle.schema.specs.declared.catalogue.ColumnDef.{ColumnDef}
use Rattle.schema.specs.declared.catalogue.Fill.{Fill}
use Rattle.schema.specs.declared.catalogue.Fill.TheVariants as fill
use Rattle.schema.specs.declared.catalogue.TableDef.{TableDef}
use Rattle.schema.specs.Allowed.{AreAllowed, AreColumns}
use Rattle.sql_tree.specs.declared.statement.Cell.{Cell}
use Rattle.sql_tree.specs.declared.statement.Insert.{Insert}
use Rattle.sql_tree.specs.declared.statement.Update.{Update}
use Rattle.sql_tree.specs.declared.statement.Statement.TheVariants as statement
use Rattle.typed_sql.specs.declared.typed.TypedExpr.{TypedExpr}
use Rattle.typed_sql.specs.Places.{are_alike, asks_column}
use Rattle.typed_sql.specs.Own.{Scope, beside, column_meant, over}
use Rattle.typed_sql.specs.Steps.{Each, Made, Step, Then, Told, Walk}
use Rattle.typed_sql.specs.Typing.{Typed}
use Rattle.catalogue.specs.declared.checked.CheckedBody.TheVariants as body
use Rattle.catalogue.specs.declared.checked.CheckedChange.{CheckedChange}
use Rattle.catalogue.specs.declared.checked.CheckedInsert.{CheckedInsert}
use Rattle.catalogue.specs.declared.checked.CheckedRemove.{CheckedRemove}
use Rattle.catalogue.specs.declared.checked.TypedCell.{TypedCell}
use Rattle.catalogue.specs.declared.checked.TypedCell.TheVariants as cell
use Rattle.catalogue.specs.declared.checked.TypedSet.{TypedSet}
use Rattle.catalogue.specs.Statements.{Body, BodyOf, CellAt, CellIn, Change, ColumnsOf, FilterOf, InsertInto, Name, Remove, RowOf, SetOf, change_of, column_at, default_cell, filled, given_cell, insert_of, may_set, named_twice, numbered_from, put_cells, remove_of, set_of, table_named, whole_row, wrong_number}
use Rattle.checked_sql.specs.Sound.{Names, is_sound}
use Rattle.checked_sql.specs.OfCatalogue.{are_apart, are_cells, around, is_cell, is_change, is_empty, is_filter, is_insert, is_now, is_remove, is_serial, is_set, is_value_of, of_table}
use Rattle.sql_eval.specs.Effects.{Effect, Writes}
use Rattle.sql_eval.specs.Inserts.{insert_draws, insert_in}
use Rattle.sql_eval.specs.Stored.{as_column, kind_at}
use Rattle.sql_eval.specs.Views.{columns_of as of_view}
use Rattle.sql_eval.specs.Walks.{Coded, behind, made as made_of}
use Rattle.sql_eval.specs.declared.effect.Change.{Change as Changed}
use Rattle.sql_values.specs.Meaning.{value_in}
use Rattle.checked_print.specs.Spelled.{column_name, name_at, spelled, spelled_whole}
use Rattle.checked_print.specs.Statements.{column_names, columns_of, name_of, spelled_cell, spelled_change, spelled_insert, spelled_remove, spelled_set}
use Rattle.statement_laws.specs.Again.{SameEffect}
use Rattle.checked_print.specs.Ranges.{is_held_cell, is_held_change, is_held_expr, is_held_insert, is_held_option, is_held_remove}
use Rattle.statement_laws.proofs.Effects.{SameCell, SameCells, SameFilter, SameSet, change_same, insert_draws_same, insert_same, remove_same, stored}
use Rattle.statement_laws.proofs.Exprs.{Means, known_of, round}
use Rattle.statement_laws.proofs.Literals.{NearValue}
use Rattle.statement_laws.proofs.Numbers.{both_of}
use Rattle.statement_laws.proofs.Selects.{filter_sure, not_is}
use Rattle.statement_laws.proofs.Sure.{All, Pairs, Sure, each, followed, gives, made, told, told_then}
use Rattle.statement_laws.proofs.Tables.{MayHave, beside_means, column_named, columns_are, from_zero, named, neither, over_means}

-- ---- the columns of an INSERT

differ : (n k : ℕ) → n < k → (n == k) ≡ false
differ n k less = by_test (n == k) refl
  where
    by_test : (b : Truth) → (n == k) ≡ b → (n == k) ≡ false
    by_test true is = absurd (let same = eqb-true n k is in omega (arith, same, less))
    by_test false is = is

below_fails : (before : List ℕ) (k : ℕ) → All (λ n. n < k) before → list_any (λ n. n == k) before ≡ false
below_fails [] k all = refl
below_fails (n ∷ before) k all = ap (λ (b : Truth). b || list_any (λ m. m == k) before) (differ n k all.0) ∙ below_fails before k all.1

below_more : (before : List ℕ) (k : ℕ) → All (λ n. n < k) before → All (λ n. n < suc k) (before ++ k ∷ [])
below_more [] k all = (omega arith, tt)
below_more (n ∷ before) k all = (let less = all.0 in omega (arith, less), below_more before k all.1)

module _ (parameters : Truth) (kinds : List ColType) (t : TableDef) (are : AreColumns t.key t.serial [] t.columns) where
  abbrev scope : Scope
  scope = over parameters t

  name_sure : (k : ℕ) (c : ColumnDef) (before : List ℕ) → slice_get t.columns k ≡ Some c → All (λ n. n < k) before
      → Sure (λ (x : ℕ × ColumnDef). x ≡ (k, c)) (known_of kinds) (Name scope before c.name)
  name_sure k c before there below =
      told_then (λ (x : ℕ × ColumnDef). x ≡ (k, c)) (known_of kinds) (column_meant scope None c.name) (k, c) (λ x. Told (named_twice c.name before x))
      (column_named parameters t are k c there)
      (told (λ (x : ℕ × ColumnDef). x ≡ (k, c)) (known_of kinds) (named_twice c.name before (k, c)) (k, c)
      (ap (λ (b : Truth). if b then Err (record { code = codes "42701"; name = c.name }) else Ok (k, c)) (below_fails before k below)) refl)

  abbrev next : List ℕ → ℕ × ColumnDef → List ℕ
  next before x = before ++ x.0 ∷ []

  names_sure : (cs : List ColumnDef) (k : ℕ) (before : List ℕ) → All (λ n. n < k) before → ((i : ℕ) (c : ColumnDef) → slice_get cs i ≡ Some c → slice_get t.columns (k + i) ≡ Some c)
      → Sure (λ ys. ys ≡ numbered_from k cs) (known_of kinds) (Walk (Name scope) next before (column_names cs))
  names_sure [] k before below there = gives (λ (ys : List (ℕ × ColumnDef)). ys ≡ []) (known_of kinds) [] refl
  names_sure (c ∷ cs) k before below there =
      let here : slice_get t.columns k ≡ Some c = ap (slice_get t.columns) (plus_zero k) ∙ there 0 c refl in
      followed (λ (x : ℕ × ColumnDef). x ≡ (k, c)) (λ ys. ys ≡ numbered_from k (c ∷ cs)) (known_of kinds) (Name scope before c.name)
      (λ x. Made (λ ys. x ∷ ys) (Walk (Name scope) next (next before x) (column_names cs))) (name_sure k c before here below)
      (λ x same. made (λ ys. ys ≡ numbered_from (suc k) cs) (λ ys. ys ≡ numbered_from k (c ∷ cs)) (known_of kinds)
      (Walk (Name scope) next (next before x) (column_names cs)) (λ ys. x ∷ ys)
      (subst (λ (z : ℕ × ColumnDef). Sure (λ ys. ys ≡ numbered_from (suc k) cs) (known_of kinds) (Walk (Name scope) next (next before z) (column_names cs))) (sym same)
      (names_sure cs (suc k) (before ++ k ∷ []) (below_more before k below) (λ i d is. ap (slice_get t.columns) (plus_suc k i) ∙ there (suc i) d is)))
      (λ ys all. ap (λ (z : ℕ × ColumnDef). z ∷ ys) same ∙ ap (λ (zs : List (ℕ × ColumnDef)). (k, c) ∷ zs) all))
    where
      plus_zero : (m : ℕ) → m ≡ m + 0
      plus_zero m = omega arith

      plus_suc : (m i : ℕ) → suc m + i ≡ m + suc i
      plus_suc m i = omega arith

-- ---- rows

serial_is : (column : ColumnDef) (f : Fill) → is_serial f ≡ true → filled column f ≡ cell.Serial
serial_is column fill.Serial is = refl
serial_is column fill.Nothing is = absurd (let f : false ≡ true = is in cc)
serial_is column fill.Now is = absurd (let f : false ≡ true = is in cc)
serial_is column (fill.Constant v) is = absurd (let f : false ≡ true = is in cc)

now_is : (column : ColumnDef) (f : Fill) → is_now f ≡ true → filled column f ≡ cell.Now
now_is column fill.Now is = refl
now_is column fill.Nothing is = absurd (let f : false ≡ true = is in cc)
now_is column fill.Serial is = absurd (let f : false ≡ true = is in cc)
now_is column (fill.Constant v) is = absurd (let f : false ≡ true = is in cc)

set_here : {A : Type 0} (front rest : List A) (x y : A) → set (front ++ x ∷ rest) (length front) y ≡ front ++ y ∷ rest
set_here [] rest x y = refl
set_here {A} (z ∷ front) rest x y = ap (λ (xs : List A). z ∷ xs) (set_here front rest x y)

length_more : {A : Type 0} (front : List A) (x : A) → length (front ++ x ∷ []) ≡ suc (length front)
length_more [] x = refl
length_more (y ∷ front) x = ap suc (length_more front x)

-- cells for all columns are the row
put_all : (columns : List ColumnDef) (front cells row : List TypedCell) → length cells ≡ length columns → length row ≡ length columns
    → put_cells (numbered_from (length front) columns) cells (front ++ row) ≡ front ++ cells
put_all [] front [] [] is same = refl
put_all [] front (d ∷ cells) row is same = absurd (omega (arith, is))
put_all [] front [] (r ∷ row) is same = absurd (omega (arith, same))
put_all (column ∷ columns) front [] row is same = absurd (omega (arith, is))
put_all (column ∷ columns) front (d ∷ cells) [] is same = absurd (omega (arith, same))
put_all (column ∷ columns) front (d ∷ cells) (r ∷ row) is same =
    ap (put_cells (numbered_from (suc (length front)) columns) cells) (set_here front row r d ∙ sym (append_assoc front (d ∷ []) row))
    ∙ (ap (λ (n : ℕ). put_cells (numbered_from n columns) cells ((front ++ d ∷ []) ++ row)) (sym (length_more front d))
    ∙ (put_all columns (front ++ d ∷ []) cells row (omega (arith, is)) (omega (arith, same)) ∙ append_assoc front (d ∷ []) cells))

numbered_length : (k : ℕ) (columns : List ColumnDef) → length (numbered_from k columns) ≡ length columns
numbered_length k [] = refl
numbered_length k (column ∷ columns) = ap suc (numbered_length (suc k) columns)

defaults_length : (columns : List ColumnDef) → length (map default_cell columns) ≡ length columns
defaults_length [] = refl
defaults_length (column ∷ columns) = ap suc (defaults_length columns)

module _ (parameters : Truth) (kinds : List ColType) (t : TableDef) (may : MayHave parameters kinds) where
  abbrev scope_in : Scope
  scope_in = beside parameters t

  abbrev given : List (ℕ × ColumnDef)
  given = numbered_from 0 t.columns

  -- a cell of a column
  cell_sure : (column : ColumnDef) (c : TypedCell) → is_cell kinds column c ≡ true → is_held_cell c ≡ true → Sure (SameCell column.kind c) (known_of kinds) (CellIn scope_in column (spelled_cell c))
  cell_sure column cell.Serial is well =
      gives (SameCell column.kind cell.Serial) (known_of kinds) (default_cell column) (subst (SameCell column.kind cell.Serial) (sym (serial_is column column.fill is)) tt)
  cell_sure column cell.Now is well =
      gives (SameCell column.kind cell.Now) (known_of kinds) (default_cell column) (subst (SameCell column.kind cell.Now) (sym (now_is column column.fill is)) tt)
  cell_sure column (cell.Given e) is well =
      let both = both_of (are_alike column.kind e.kind) (is_sound (around [] kinds) e) is in
      made (NearValue e) (SameCell column.kind (cell.Given e)) (known_of kinds) (Typed scope_in (spelled_whole [] e) (asks_column column.kind)) given_cell
      ((round scope_in [] kinds (beside_means parameters kinds t may) e well both.1).2.0 column.kind both.0)
      (λ y near. stored column.kind e y both.0 near)

  abbrev step : ℕ → Cell → Step TypedCell
  step at c = CellAt scope_in (column_at (slice_get given at)) c

  cells_sure : (columns : List ColumnDef) (cs : List TypedCell) (at : ℕ) → are_cells kinds columns cs ≡ true → list_all is_held_cell cs ≡ true
      → ((i : ℕ) (c : ColumnDef) → slice_get columns i ≡ Some c → slice_get given (at + i) ≡ Some (at + i, c))
      → Sure (λ ds. SameCells columns cs ds × (length ds ≡ length columns)) (known_of kinds) (Walk step (λ at c. suc at) at (map spelled_cell cs))
  cells_sure [] [] at is well there = gives (λ ds. SameCells [] [] ds × (length ds ≡ 0)) (known_of kinds) [] (tt, refl)
  cells_sure [] (c ∷ cs) at is well there = absurd (let f : false ≡ true = is in cc)
  cells_sure (column ∷ columns) [] at is well there = absurd (let f : false ≡ true = is in cc)
  cells_sure (column ∷ columns) (c ∷ cs) at is well there =
      let both = both_of (is_cell kinds column c) (are_cells kinds columns cs) is in
      let all = both_of (is_held_cell c) (list_all is_held_cell cs) well in
      let here : slice_get given at ≡ Some (at + 0, column) = ap (slice_get given) (plus_zero at) ∙ there 0 column refl in
      followed (SameCell column.kind c) (λ ds. SameCells (column ∷ columns) (c ∷ cs) ds × (length ds ≡ suc (length columns))) (known_of kinds) (step at (spelled_cell c))
      (λ d. Made (λ ds. d ∷ ds) (Walk step (λ at c. suc at) (suc at) (map spelled_cell cs)))
      (subst (λ (o : Option (ℕ × ColumnDef)). Sure (SameCell column.kind c) (known_of kinds) (CellAt scope_in (column_at o) (spelled_cell c))) (sym here) (cell_sure column c both.0 all.0))
      (λ d same. made (λ ds. SameCells columns cs ds × (length ds ≡ length columns)) (λ ds. SameCells (column ∷ columns) (c ∷ cs) ds × (length ds ≡ suc (length columns))) (known_of kinds)
      (Walk step (λ at c. suc at) (suc at) (map spelled_cell cs)) (λ ds. d ∷ ds)
      (cells_sure columns cs (suc at) both.1 all.1 (λ i x is. next_there i x is))
      (λ ds rest. ((same, rest.0), ap suc rest.1)))
    where
      plus_zero : (m : ℕ) → m ≡ m + 0
      plus_zero m = omega arith

      plus_suc : (m i : ℕ) → suc m + i ≡ m + suc i
      plus_suc m i = omega arith

      next_there : (i : ℕ) (x : ColumnDef) → slice_get columns i ≡ Some x → slice_get given (suc at + i) ≡ Some (suc at + i, x)
      next_there i x is = ap (slice_get given) (plus_suc at i) ∙ (there (suc i) x is ∙ ap (λ (m : ℕ). Some (m, x)) (sym (plus_suc at i)))

  numbered_at : (columns : List ColumnDef) (k i : ℕ) (c : ColumnDef) → slice_get columns i ≡ Some c → slice_get (numbered_from k columns) i ≡ Some (k + i, c)
  numbered_at [] k i c is = absurd (none-some c is)
  numbered_at (x ∷ columns) k zero c is = ap (λ (o : Option ColumnDef). option_map (λ (d : ColumnDef). (k, d)) o) is ∙ ap (λ (m : ℕ). Some (m, c)) (zero_plus k)
    where
      zero_plus : (m : ℕ) → m ≡ m + 0
      zero_plus m = omega arith
  numbered_at (x ∷ columns) k (suc i) c is = numbered_at columns (suc k) i c is ∙ ap (λ (m : ℕ). Some (m, c)) (suc_plus k i)
    where
      suc_plus : (m j : ℕ) → suc m + j ≡ m + suc j
      suc_plus m j = omega arith

  row_whole : (ds : List TypedCell) → length ds ≡ length t.columns → whole_row t.columns given ds ≡ Ok ds
  row_whole ds is =
      ap (λ (b : Truth). if b then Ok (put_cells given ds (map default_cell t.columns)) else Err wrong_number)
      (eq-eqb (length ds) (length given) (is ∙ sym (numbered_length 0 t.columns)))
      ∙ ap (λ (row : List TypedCell). Ok row) (put_all t.columns [] ds (map default_cell t.columns) is (defaults_length t.columns))

  row_sure : (cs : List TypedCell) → are_cells kinds t.columns cs ≡ true → list_all is_held_cell cs ≡ true
      → Sure (SameCells t.columns cs) (known_of kinds) (RowOf scope_in t.columns given (map spelled_cell cs))
  row_sure cs is well =
      followed (λ ds. SameCells t.columns cs ds × (length ds ≡ length t.columns)) (SameCells t.columns cs) (known_of kinds) (Walk step (λ at c. suc at) 0 (map spelled_cell cs))
      (λ ds. Told (whole_row t.columns given ds)) (cells_sure t.columns cs 0 is well (λ i c there. ap (slice_get given) (from_zero i) ∙ numbered_at t.columns 0 i c there))
      (λ ds same. told (SameCells t.columns cs) (known_of kinds) (whole_row t.columns given ds) ds (row_whole ds same.1) same.0)

  rows_all : (rows : List (List TypedCell)) → list_all (are_cells kinds t.columns) rows ≡ true → list_all (list_all is_held_cell) rows ≡ true
      → All (λ cs. Sure (SameCells t.columns cs) (known_of kinds) (RowOf scope_in t.columns given (map spelled_cell cs))) rows
  rows_all [] is well = tt
  rows_all (cs ∷ rows) is well =
      let both = both_of (are_cells kinds t.columns cs) (list_all (are_cells kinds t.columns) rows) is in
      let all = both_of (list_all is_held_cell cs) (list_all (list_all is_held_cell) rows) well in
      (row_sure cs both.0 all.0, rows_all rows both.1 all.1)

  pub rows_sure : (rows : List (List TypedCell)) → list_all (are_cells kinds t.columns) rows ≡ true → list_all (list_all is_held_cell) rows ≡ true
      → Sure (λ made. Pairs (SameCells t.columns) rows made) (known_of kinds) (Each (RowOf scope_in t.columns given) (map (map spelled_cell) rows))
  rows_sure rows is well = each (SameCells t.columns) (map spelled_cell) (RowOf scope_in t.columns given) (known_of kinds) rows (rows_all rows is well)

-- ---- SET

not_false : (b : Truth) → b ≡ false → not b ≡ true
not_false b is = ap not is

turned : (a b : ℕ) → (a == b) ≡ false → (b == a) ≡ false
turned a b is = by_test (b == a) refl
  where
    by_test : (c : Truth) → (b == a) ≡ c → (b == a) ≡ false
    by_test true same = absurd (let f : true ≡ false = sym (eq-eqb a b (sym (eqb-true b a same))) ∙ is in cc)
    by_test false same = same

fails_more : (before : List ℕ) (n k : ℕ) → list_any (λ m. m == k) before ≡ false → (n == k) ≡ false → list_any (λ m. m == k) (before ++ n ∷ []) ≡ false
fails_more [] n k first last = ap (λ (b : Truth). b || false) last
fails_more (m ∷ before) n k first last =
    let both = neither (m == k) (list_any (λ j. j == k) before) first in
    ap (λ (b : Truth). b || list_any (λ j. j == k) (before ++ n ∷ [])) both.0 ∙ fails_more before n k both.1 last

-- behind a column that is set no other is the same
abbrev Apart : List ℕ → List TypedSet → Type 0
Apart before sets = All (λ s. list_any (λ n. n == s.column) before ≡ false) sets

apart_more : (before : List ℕ) (n : ℕ) (sets : List TypedSet) → list_any (λ s. s.column == n) sets ≡ false → Apart before sets → Apart (before ++ n ∷ []) sets
apart_more before n [] none apart = tt
apart_more before n (s ∷ sets) none apart =
    let both = neither (s.column == n) (list_any (λ r. r.column == n) sets) none in
    (fails_more before n s.column apart.0 (turned s.column n both.0), apart_more before n sets both.1 apart.1)

none_apart : (sets : List TypedSet) → Apart [] sets
none_apart [] = tt
none_apart (s ∷ sets) = (refl, none_apart sets)

module _ (parameters : Truth) (kinds : List ColType) (t : TableDef) (may : MayHave parameters kinds) (are : AreColumns t.key t.serial [] t.columns) where
  abbrev names : Names
  names = around t.columns kinds

  abbrev rows_of : Scope
  rows_of = over parameters t

  means : Means rows_of t.columns kinds
  means = over_means parameters kinds t may are

  set_by : (s : TypedSet) (before : List ℕ) (o : Option ColumnDef) → slice_get t.columns s.column ≡ o → (s.column == t.key) ≡ false → is_value_of names o s.expr ≡ true
      → is_held_expr s.expr ≡ true → list_any (λ n. n == s.column) before ≡ false → Sure (SameSet t.columns s) (known_of kinds) (SetOf rows_of t.key before (spelled_set t.columns s))
  set_by s before None there key is well apart = absurd (let f : false ≡ true = is in cc)
  set_by s before (Some c) there key is well apart =
      let both = both_of (are_alike c.kind s.expr.kind) (is_sound names s.expr) is in
      let name = name_at t.columns s.column in
      let meant : column_meant rows_of None name ≡ Ok (s.column, c) = ap (λ (o : Option ColumnDef). column_meant rows_of None (column_name o)) there ∙ column_named parameters t are s.column c there in
      let allowed : may_set t.key name before (s.column, c) ≡ Ok (s.column, c) =
      ap (λ (b : Truth). if b then Err (record { code = codes "0A000"; name = codes "update of a key column" })
      else (if list_any (λ n. n == s.column) before then Err (record { code = codes "42601"; name = name }) else Ok (s.column, c))) key
      ∙ ap (λ (b : Truth). if b then Err (record { code = codes "42601"; name = name }) else Ok (s.column, c)) apart in
      let at : kind_at t.columns s.column ≡ Some c.kind = ap (λ (o : Option ColumnDef). elim o [ None ↦ None | Some d ↦ Some d.kind ]) there in
      told_then (SameSet t.columns s) (known_of kinds) (column_meant rows_of None name) (s.column, c)
      (λ x. Then (Told (may_set t.key name before x)) (λ x. Made (set_of x.0) (Typed rows_of (spelled_whole t.columns s.expr) (asks_column (x.1).kind)))) meant
      (told_then (SameSet t.columns s) (known_of kinds) (may_set t.key name before (s.column, c)) (s.column, c)
      (λ x. Made (set_of x.0) (Typed rows_of (spelled_whole t.columns s.expr) (asks_column (x.1).kind))) allowed
      (made (NearValue s.expr) (SameSet t.columns s) (known_of kinds) (Typed rows_of (spelled_whole t.columns s.expr) (asks_column c.kind)) (set_of s.column)
      ((round rows_of t.columns kinds means s.expr well both.1).2.0 c.kind both.0)
      (λ y near. (
        refl,
        λ view. subst (λ (o : Option ColType). behind (value_in view y) (as_column o) ≡ behind (value_in view s.expr) (as_column o)) (sym at)
            (stored c.kind s.expr y both.0 near view),
      ))))

  abbrev after_set : List ℕ → TypedSet → List ℕ
  after_set before s = before ++ s.column ∷ []

  sets_sure : (sets : List TypedSet) (before : List ℕ) → list_all (is_set names t) sets ≡ true → are_apart sets ≡ true → list_all (λ s. is_held_expr s.expr) sets ≡ true → Apart before sets
      → Sure (λ ts. Pairs (SameSet t.columns) sets ts) (known_of kinds) (Walk (SetOf rows_of t.key) after_set before (map (spelled_set t.columns) sets))
  sets_sure [] before is apart well free = gives (λ ts. Pairs (SameSet t.columns) [] ts) (known_of kinds) [] tt
  sets_sure (s ∷ sets) before is apart well free =
      let both = both_of (is_set names t s) (list_all (is_set names t) sets) is in
      let one = both_of (not (s.column == t.key)) (is_value_of names (slice_get t.columns s.column) s.expr) both.0 in
      let others = both_of (not (list_any (λ r. r.column == s.column) sets)) (are_apart sets) apart in
      let all = both_of (is_held_expr s.expr) (list_all (λ r. is_held_expr r.expr) sets) well in
      followed (SameSet t.columns s) (λ ts. Pairs (SameSet t.columns) (s ∷ sets) ts) (known_of kinds) (SetOf rows_of t.key before (spelled_set t.columns s))
      (λ r. Made (λ ts. r ∷ ts) (Walk (SetOf rows_of t.key) after_set (after_set before r) (map (spelled_set t.columns) sets)))
      (set_by s before (slice_get t.columns s.column) refl (not_is (s.column == t.key) one.0) one.1 all.0 free.0)
      (λ r same. made (λ ts. Pairs (SameSet t.columns) sets ts) (λ ts. Pairs (SameSet t.columns) (s ∷ sets) ts) (known_of kinds)
      (Walk (SetOf rows_of t.key) after_set (after_set before r) (map (spelled_set t.columns) sets)) (λ ts. r ∷ ts)
      (subst (λ (n : ℕ). Sure (λ ts. Pairs (SameSet t.columns) sets ts) (known_of kinds) (Walk (SetOf rows_of t.key) after_set (before ++ n ∷ []) (map (spelled_set t.columns) sets))) (sym same.0)
      (sets_sure sets (before ++ s.column ∷ []) both.1 others.1 all.1
      (apart_more before s.column sets (not_is (list_any (λ r. r.column == s.column) sets) others.0) free.1)))
      (λ ts rest. (same, rest)))

-- ---- statements

module _ (tables : List TableDef) (allowed : AreAllowed tables) (parameters : Truth) (kinds : List ColType) (may : MayHave parameters kinds) where
  abbrev writes : ℕ → Coded (List Changed) → Effect
  writes draws given = record { draws = draws; given = made_of Writes given }

  module _ (insert : CheckedInsert) (well : is_held_insert insert ≡ true) where
    abbrev IsInsert : Body → Type 0
    IsInsert b = SameEffect tables b.0 (body.Insert insert)

    insert_effect : (t : TableDef) → slice_get tables insert.table ≡ Some t → (rows : List (List TypedCell)) → Pairs (SameCells t.columns) insert.rows rows → IsInsert (insert_of insert.table rows)
    insert_effect t there rows same view_around view next =
        let again : CheckedInsert = record { table = insert.table; rows = rows } in
        let pairs : Pairs (SameCells (of_view (slice_get tables insert.table))) insert.rows rows =
        subst (λ (o : Option TableDef). Pairs (SameCells (of_view o)) insert.rows rows) (sym there) same in
        ap (λ (d : ℕ). writes d (insert_in view_around view (slice_get tables insert.table) next again)) (insert_draws_same (slice_get tables insert.table) next insert again pairs)
        ∙ ap (writes (insert_draws (slice_get tables insert.table) next insert)) (insert_same view_around view (slice_get tables insert.table) next insert again refl pairs)

    insert_by : (o : Option TableDef) → slice_get tables insert.table ≡ o → of_table (is_insert kinds) o insert ≡ true
        → Sure IsInsert (known_of kinds) (BodyOf tables parameters (statement.Insert (record { table = name_of o; columns = Some (column_names (columns_of o)); rows = map (map spelled_cell) insert.rows })))
    insert_by None there is = absurd (let f : false ≡ true = is in cc)
    insert_by (Some t) there is =
        let are = columns_are tables insert.table t allowed there in
        let first = both_of (not (is_empty insert.rows)) (nat_lt (length insert.rows) 4294967296 && list_all (are_cells kinds t.columns) insert.rows) is in
        let second = both_of (nat_lt (length insert.rows) 4294967296) (list_all (are_cells kinds t.columns) insert.rows) first.1 in
        let s : Insert = record { table = t.name; columns = Some (column_names t.columns); rows = map (map spelled_cell) insert.rows } in
        told_then IsInsert (known_of kinds) (table_named tables t.name) (insert.table, t) (InsertInto parameters s) (named tables insert.table t allowed there)
        (followed (λ (xs : List (ℕ × ColumnDef)). xs ≡ numbered_from 0 t.columns) IsInsert (known_of kinds) (ColumnsOf (over parameters t) t.columns s (Some (column_names t.columns)))
        (λ xs. Made (insert_of insert.table) (Each (RowOf (beside parameters t) t.columns xs) (map (map spelled_cell) insert.rows)))
        (names_sure parameters kinds t are t.columns 0 [] tt (λ i c found. ap (slice_get t.columns) (from_zero i) ∙ found))
        (λ xs same. subst (λ (zs : List (ℕ × ColumnDef)). Sure IsInsert (known_of kinds) (Made (insert_of insert.table) (Each (RowOf (beside parameters t) t.columns zs) (map (map spelled_cell) insert.rows)))) (sym same)
        (made (λ rows. Pairs (SameCells t.columns) insert.rows rows) IsInsert (known_of kinds)
        (Each (RowOf (beside parameters t) t.columns (numbered_from 0 t.columns)) (map (map spelled_cell) insert.rows)) (insert_of insert.table)
        (rows_sure parameters kinds t may insert.rows second.1 well) (λ rows pairs. insert_effect t there rows pairs))))

    pub insert_sure : of_table (is_insert kinds) (slice_get tables insert.table) insert ≡ true → Sure IsInsert (known_of kinds) (BodyOf tables parameters (statement.Insert (spelled_insert tables insert)))
    insert_sure is = insert_by (slice_get tables insert.table) refl is

  module _ (change : CheckedChange) (well : is_held_change change ≡ true) where
    abbrev IsChange : Body → Type 0
    IsChange b = SameEffect tables b.0 (body.Change change)

    change_effect : (t : TableDef) → slice_get tables change.table ≡ Some t → (sets : List TypedSet) (filter : Option TypedExpr) → Pairs (SameSet t.columns) change.sets sets
        → SameFilter change.filter filter → IsChange (change_of change.table sets filter)
    change_effect t there sets filter same filters view_around view next =
        let again : CheckedChange = record { table = change.table; sets = sets; filter = filter } in
        let pairs : Pairs (SameSet (of_view (slice_get tables change.table))) change.sets sets =
        subst (λ (o : Option TableDef). Pairs (SameSet (of_view o)) change.sets sets) (sym there) same in
        ap (writes 0) (change_same view_around (of_view (slice_get tables change.table)) change again refl pairs filters view)

    change_by : (o : Option TableDef) → slice_get tables change.table ≡ o → of_table (is_change kinds) o change ≡ true
        → Sure IsChange (known_of kinds) (BodyOf tables parameters (statement.Update (record {
          table = name_of o;
          sets = map (spelled_set (columns_of o)) change.sets;
          filter = option_map (spelled (columns_of o)) change.filter;
        })))
    change_by None there is = absurd (let f : false ≡ true = is in cc)
    change_by (Some t) there is =
        let are = columns_are tables change.table t allowed there in
        let names = around t.columns kinds in
        let first = both_of (not (is_empty change.sets)) (are_apart change.sets && (list_all (is_set names t) change.sets && is_filter names change.filter)) is in
        let second = both_of (are_apart change.sets) (list_all (is_set names t) change.sets && is_filter names change.filter) first.1 in
        let third = both_of (list_all (is_set names t) change.sets) (is_filter names change.filter) second.1 in
        let formed = both_of (list_all (λ (s : TypedSet). is_held_expr s.expr) change.sets) (is_held_option change.filter) well in
        let s : Update = record { table = t.name; sets = map (spelled_set t.columns) change.sets; filter = option_map (spelled t.columns) change.filter } in
        told_then IsChange (known_of kinds) (table_named tables t.name) (change.table, t) (Change parameters s) (named tables change.table t allowed there)
        (followed (λ sets. Pairs (SameSet t.columns) change.sets sets) IsChange (known_of kinds)
        (Walk (SetOf (over parameters t) t.key) (λ before r. before ++ r.column ∷ []) [] (map (spelled_set t.columns) change.sets))
        (λ sets. Made (change_of change.table sets) (FilterOf (over parameters t) (option_map (spelled t.columns) change.filter)))
        (sets_sure parameters kinds t may are change.sets [] third.0 second.0 formed.0 (none_apart change.sets))
        (λ sets pairs. made (SameFilter change.filter) IsChange (known_of kinds) (FilterOf (over parameters t) (option_map (spelled t.columns) change.filter)) (change_of change.table sets)
        (filter_sure (over parameters t) t.columns kinds (over_means parameters kinds t may are) change.filter third.1 formed.1)
        (λ filter same. change_effect t there sets filter pairs same)))

    pub change_sure : of_table (is_change kinds) (slice_get tables change.table) change ≡ true → Sure IsChange (known_of kinds) (BodyOf tables parameters (statement.Update (spelled_change tables change)))
    change_sure is = change_by (slice_get tables change.table) refl is

  module _ (remove : CheckedRemove) (well : is_held_remove remove ≡ true) where
    abbrev IsRemove : Body → Type 0
    IsRemove b = SameEffect tables b.0 (body.Remove remove)

    remove_by : (o : Option TableDef) → slice_get tables remove.table ≡ o → of_table (is_remove kinds) o remove ≡ true
        → Sure IsRemove (known_of kinds) (BodyOf tables parameters (statement.Delete (record { table = name_of o; filter = option_map (spelled (columns_of o)) remove.filter })))
    remove_by None there is = absurd (let f : false ≡ true = is in cc)
    remove_by (Some t) there is =
        let are = columns_are tables remove.table t allowed there in
        told_then IsRemove (known_of kinds) (table_named tables t.name) (remove.table, t) (Remove parameters (record { table = t.name; filter = option_map (spelled t.columns) remove.filter }))
        (named tables remove.table t allowed there)
        (made (SameFilter remove.filter) IsRemove (known_of kinds) (FilterOf (over parameters t) (option_map (spelled t.columns) remove.filter)) (remove_of remove.table)
        (filter_sure (over parameters t) t.columns kinds (over_means parameters kinds t may are) remove.filter is well)
        (λ filter same view_around view next. ap (writes 0) (remove_same view_around view remove (record { table = remove.table; filter = filter }) refl same)))

    pub remove_sure : of_table (is_remove kinds) (slice_get tables remove.table) remove ≡ true → Sure IsRemove (known_of kinds) (BodyOf tables parameters (statement.Delete (spelled_remove tables remove)))
    remove_sure is = remove_by (slice_get tables remove.table) refl is
