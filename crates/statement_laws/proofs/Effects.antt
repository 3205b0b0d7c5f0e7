-- Statements whose parts come to the same have the same effect.
use Rattle.std.proofs.Common.{◌≡◌, ◌∙◌, inl, inr, ℕ, ℤ, pos, ◌+ℤ◌, List, [], ◌∷◌, ◌++◌, length, map, set, refl, ap, sym}
use Rattle.std.proofs.Math.Path.{fun_ext}
use Rattle.std.specs.Prelude.{sum, Bool as Truth, true, false, Option, Some, None, Ok, Err, if◌then◌else◌}
use Rattle.std.specs.declared.cmp.Ordering.{Ordering}
use Rattle.std.specs.declared.cmp.Ordering.TheVariants as stand
use Rattle.std.specs.Ordering.{is_gt, ordering_then}
use Rattle.pg_values.specs.declared.col_type.ColType.{ColType}
use Rattle.pg_values.specs.declared.col_type.ColType.TheVariants as kind
use Rattle.pg_values.specs.declared.value.Value.{Value}
use Rattle.schema.specs.declared.catalogue.ColumnDef.{ColumnDef}
use Rattle.schema.specs.declared.catalogue.TableDef.{TableDef}
use Rattle.typed_sql.specs.declared.typed.TypedExpr.{TypedExpr}
use Rattle.typed_sql.specs.Places.{are_alike}
use Rattle.catalogue.specs.declared.checked.CheckedRead.{CheckedRead}
use Rattle.catalogue.specs.declared.checked.CheckedInsert.{CheckedInsert}
use Rattle.catalogue.specs.declared.checked.CheckedChange.{CheckedChange}
use Rattle.catalogue.specs.declared.checked.CheckedRemove.{CheckedRemove}
use Rattle.catalogue.specs.declared.checked.OrderKey.{OrderKey}
use Rattle.catalogue.specs.declared.checked.TypedCell.{TypedCell}
use Rattle.catalogue.specs.declared.checked.TypedCell.TheVariants as cell
use Rattle.catalogue.specs.declared.checked.TypedSet.{TypedSet}
use Rattle.sql_values.specs.Logic.{is_truth}
use Rattle.sql_values.specs.Meaning.{Around, value_in}
use Rattle.sql_values.specs.Outcome.{Outcome}
use Rattle.sql_eval.specs.declared.row.Row.{Row}
use Rattle.sql_eval.specs.declared.effect.Change.{Change}
use Rattle.sql_eval.specs.declared.effect.ReadEffect.{ReadEffect}
use Rattle.sql_eval.specs.Inserts.{all_draws, cell_value, cell_values, draws_in, insert_draws, insert_in, is_spent, is_taken, last_serial, row_draws, rows_given, serial_kind, spent, unless_taken}
use Rattle.sql_eval.specs.Ordered.{key_stand, ordered, put_in, row_order, sorted}
use Rattle.sql_eval.specs.Reads.{at_row, counted, cut, entries_read, fitting, is_kept, kept, limit_in, limit_of, no_row, read_in, reading, result_row, row_of}
use Rattle.sql_eval.specs.Stored.{as_column, as_kind, cells_set, change_in, change_of, changed, kind_at, not_lacking, put_sets, remove_in, removed, set_value, updated, updated_row}
use Rattle.sql_eval.specs.Views.{Entry, View, cell_at, columns_of, entries_in, key_column}
use Rattle.sql_eval.specs.Walks.{Coded, all_of, behind, made, walked}
use Rattle.statement_laws.proofs.Claims.{SameValue}
use Rattle.statement_laws.proofs.Literals.{Near, NearValue}
use Rattle.statement_laws.proofs.Numbers.{int4_is}
use Rattle.statement_laws.proofs.Sure.{Pairs, pairs_map}

-- ---- filters

-- both are there and come to the same, or none is
abbrev pub SameFilter : Option TypedExpr → Option TypedExpr → Type 0
SameFilter None None = Unit {0}
SameFilter None (Some y) = ⊥
SameFilter (Some e) None = ⊥
SameFilter (Some e) (Some y) = SameValue e y

kept_row : (around : Around) (f g : Option TypedExpr) → SameFilter f g → (row : Row) → is_kept around g row ≡ is_kept around f row
kept_row around None None same row = refl
kept_row around None (Some y) same row = absurd same
kept_row around (Some e) None same row = absurd same
kept_row around (Some e) (Some y) same row = ap (made (is_truth true)) (same (at_row around row))

pub kept_same : (around : Around) (f g : Option TypedExpr) → SameFilter f g → kept around g ≡ kept around f
kept_same around f g same = fun_ext (λ e. ap (made (λ stays. if stays then Some e else None)) (kept_row around f g same e.row))

-- ---- orders

abbrev pub SameKey : OrderKey → OrderKey → Type 0
SameKey a b = (b.column ≡ a.column) × (b.falling ≡ a.falling)

key_same : (a b : OrderKey) → SameKey a b → (x y : Row) → key_stand b x y ≡ key_stand a x y
key_same a b same x y =
    ap (λ (n : ℕ). key_stand (record { column = n; falling = b.falling }) x y) same.0
    ∙ ap (λ (f : Truth). key_stand (record { column = a.column; falling = f }) x y) same.1

orders_at : (lefts bs : List OrderKey) → Pairs SameKey lefts bs → (x y : Row) → row_order bs x y ≡ row_order lefts x y
orders_at [] [] same x y = refl
orders_at [] (b ∷ bs) same x y = absurd same
orders_at (a ∷ lefts) [] same x y = absurd same
orders_at (a ∷ lefts) (b ∷ bs) same x y =
    ap (λ (o : Ordering). ordering_then o (row_order bs x y)) (key_same a b same.0 x y)
    ∙ ap (ordering_then (key_stand a x y)) (orders_at lefts bs same.1 x y)

-- the last key of an order
abbrev pub EndsWith : OrderKey → List OrderKey → Type 0
EndsWith key [] = ⊥
EndsWith key (a ∷ []) = SameKey a key
EndsWith key (a ∷ b ∷ lefts) = EndsWith key (b ∷ lefts)

once_more : (o p : Ordering) → p ≡ o → ordering_then o (ordering_then p stand.Equal) ≡ ordering_then o stand.Equal
once_more stand.Less p same = refl
once_more stand.Equal p same = ap (λ (q : Ordering). ordering_then q stand.Equal) same
once_more stand.Greater p same = refl

-- rows that its last key does not tell apart stand as they do where the key comes once more
twice_at : (key : OrderKey) (lefts : List OrderKey) → EndsWith key lefts → (x y : Row) → row_order (lefts ++ key ∷ []) x y ≡ row_order lefts x y
twice_at key [] ends x y = absurd ends
twice_at key (a ∷ []) ends x y = once_more (key_stand a x y) (key_stand key x y) (key_same a key ends x y)
twice_at key (a ∷ b ∷ lefts) ends x y = ap (ordering_then (key_stand a x y)) (twice_at key (b ∷ lefts) ends x y)

module _ {A : Type 0} (order other : A → A → Ordering) (same : (x y : A) → other x y ≡ order x y) where
  put_same : (e : A) (es : List A) → put_in other e es ≡ put_in order e es
  put_same e [] = refl
  put_same e (f ∷ fs) =
      ap (λ (o : Ordering). if is_gt o then f ∷ put_in other e fs else e ∷ f ∷ fs) (same e f)
      ∙ ap (λ (rest : List A). if is_gt (order e f) then f ∷ rest else e ∷ f ∷ fs) (put_same e fs)

  sorted_same : (es : List A) → sorted other es ≡ sorted order es
  sorted_same [] = refl
  sorted_same (e ∷ es) = put_same e (sorted other es) ∙ ap (put_in order e) (sorted_same es)

-- orders that tell rows apart alike
abbrev pub SameOrder : List OrderKey → List OrderKey → Type 0
SameOrder lefts bs = (x y : Row) → row_order bs x y ≡ row_order lefts x y

pub same_keys : (lefts bs : List OrderKey) → Pairs SameKey lefts bs → SameOrder lefts bs
same_keys lefts bs same x y = orders_at lefts bs same x y

pub key_again : (key : OrderKey) (lefts bs : List OrderKey) → Pairs SameKey lefts bs → EndsWith key lefts → SameOrder lefts (bs ++ key ∷ [])
key_again key lefts bs same ends x y = twice_at key bs (ends_too lefts bs same ends) x y ∙ orders_at lefts bs same x y
  where
    ends_too : (lefts bs : List OrderKey) → Pairs SameKey lefts bs → EndsWith key lefts → EndsWith key bs
    ends_too [] bs same ends = absurd ends
    ends_too (a ∷ lefts) [] same ends = absurd same
    ends_too (a ∷ []) (b ∷ []) same ends = (ends.0 ∙ sym same.0.0, ends.1 ∙ sym same.0.1)
    ends_too (a ∷ []) (b ∷ c ∷ bs) same ends = absurd same.1
    ends_too (a ∷ d ∷ lefts) (b ∷ []) same ends = absurd same.1
    ends_too (a ∷ d ∷ lefts) (b ∷ c ∷ bs) same ends = ends_too (d ∷ lefts) (c ∷ bs) same.1 ends

order_same : (lefts bs : List OrderKey) → SameOrder lefts bs → ordered bs ≡ ordered lefts
order_same lefts bs same = fun_ext (λ es. sorted_same (λ (a b : Entry). row_order lefts a.row b.row) (λ (a b : Entry). row_order bs a.row b.row) (λ x y. same x.row y.row) es)

-- ---- limits

abbrev pub SameLimit : Option TypedExpr → Option TypedExpr → Type 0
SameLimit None None = Unit {0}
SameLimit None (Some y) = ⊥
SameLimit (Some e) None = ⊥
SameLimit (Some e) (Some y) = NearValue e y

near_limit : (k : ColType) (o p : Outcome) → Near k o p → behind p limit_of ≡ behind o limit_of
near_limit k o p (inl same) = ap (λ (q : Outcome). behind q limit_of) same
near_limit k o p (inr near) = ap (λ (q : Outcome). behind q limit_of) near.1 ∙ sym (ap (λ (q : Outcome). behind q limit_of) near.2)

limit_same : (around : Around) (l m : Option TypedExpr) → SameLimit l m → limit_in around m ≡ limit_in around l
limit_same around None None same = refl
limit_same around None (Some y) same = absurd same
limit_same around (Some e) None same = absurd same
limit_same around (Some e) (Some y) same = near_limit e.kind (value_in (at_row around no_row) e) (value_in (at_row around no_row) y) (same (at_row around no_row))

-- ---- SELECT

abbrev whole_read : View → (Entry → Coded (Option Entry)) → Option ℕ → Truth → Coded (Option ℕ) → (List Entry → List Entry) → (List Entry → Coded ReadEffect) → Coded ReadEffect
whole_read view filter table count limit order list =
    behind (walked filter (entries_read view table)) (λ es. if count then Ok (counted (length es)) else behind limit (λ n. list (cut n (order es))))

abbrev list_of : Around → List TypedExpr → Truth → List Entry → Coded ReadEffect
list_of around list for_update es = made (reading for_update es) (all_of (map (λ e. result_row around list e.row) es))

-- the parts of a SELECT come to the same
pub record SameRead (read again : CheckedRead) : Type 0 where
  pub table : again.table ≡ read.table
  pub count : again.count ≡ read.count
  pub list : Pairs SameValue read.list again.list
  pub filter : SameFilter read.filter again.filter
  pub order : SameOrder read.order again.order
  pub limit : SameLimit read.limit again.limit
  pub for_update : again.for_update ≡ read.for_update

module _ (around : Around) (view : View) (read again : CheckedRead) (same : SameRead read again) where
  values : (row : Row) → map (value_in (at_row around row)) again.list ≡ map (value_in (at_row around row)) read.list
  values row = pairs_map SameValue (value_in (at_row around row)) (value_in (at_row around row)) (λ e y is. is (at_row around row)) read.list again.list same.list

  lists : list_of around again.list again.for_update ≡ list_of around read.list read.for_update
  lists = ap (list_of around again.list) same.for_update
      ∙ fun_ext (λ es. ap (λ (f : Entry → Coded Row). made (reading read.for_update es) (all_of (map f es)))
      (fun_ext (λ e. ap (λ (vs : List Outcome). behind (all_of vs) (λ cells. fitting (row_of cells))) (values e.row))))

  pub read_same : read_in around view again ≡ read_in around view read
  read_same =
      ap (λ (f : Entry → Coded (Option Entry)). whole_read view f again.table again.count (limit_in around again.limit) (ordered again.order) (list_of around again.list again.for_update))
      (kept_same around read.filter again.filter same.filter)
      ∙ (ap (λ (t : Option ℕ). whole_read view (kept around read.filter) t again.count (limit_in around again.limit) (ordered again.order) (list_of around again.list again.for_update)) same.table
      ∙ (ap (λ (c : Truth). whole_read view (kept around read.filter) read.table c (limit_in around again.limit) (ordered again.order) (list_of around again.list again.for_update)) same.count
      ∙ (ap (λ (l : Coded (Option ℕ)). whole_read view (kept around read.filter) read.table read.count l (ordered again.order) (list_of around again.list again.for_update))
      (limit_same around read.limit again.limit same.limit)
      ∙ (ap (λ (o : List Entry → List Entry). whole_read view (kept around read.filter) read.table read.count (limit_in around read.limit) o (list_of around again.list again.for_update))
      (order_same read.order again.order same.order)
      ∙ ap (whole_read view (kept around read.filter) read.table read.count (limit_in around read.limit) (ordered read.order)) lists))))

-- ---- values that are stored

near_stored : (k j : ColType) (o p : Outcome) → are_alike k j ≡ true → Near j o p → behind p (as_kind k) ≡ behind o (as_kind k)
near_stored k j o p alike (inl same) = ap (λ (q : Outcome). behind q (as_kind k)) same
near_stored kind.Int4 j o p alike (inr near) =
    ap (λ (q : Outcome). behind q (as_kind kind.Int4)) near.1
    ∙ (sym (int4_is near.0 near.3) ∙ sym (ap (λ (q : Outcome). behind q (as_kind kind.Int4)) near.2))
near_stored kind.Int8 j o p alike (inr near) =
    ap (λ (q : Outcome). behind q (as_kind kind.Int8)) near.1 ∙ sym (ap (λ (q : Outcome). behind q (as_kind kind.Int8)) near.2)
near_stored kind.Bool j o p alike (inr near) = absurd (let f : false ≡ true = ap (are_alike kind.Bool) (sym near.4) ∙ alike in cc)
near_stored kind.Text j o p alike (inr near) = absurd (let f : false ≡ true = ap (are_alike kind.Text) (sym near.4) ∙ alike in cc)
near_stored kind.Moment j o p alike (inr near) = absurd (let f : false ≡ true = ap (are_alike kind.Moment) (sym near.4) ∙ alike in cc)

-- in a column of this type they are stored as one value
abbrev pub IsStored : ColType → TypedExpr → TypedExpr → Type 0
IsStored k e y = (around : Around) → behind (value_in around y) (as_kind k) ≡ behind (value_in around e) (as_kind k)

pub stored : (k : ColType) (e y : TypedExpr) → are_alike k e.kind ≡ true → NearValue e y → IsStored k e y
stored k e y alike near around = near_stored k e.kind (value_in around e) (value_in around y) alike (near around)

-- ---- INSERT

abbrev pub SameCell : ColType → TypedCell → TypedCell → Type 0
SameCell k cell.Serial cell.Serial = Unit {0}
SameCell k cell.Now cell.Now = Unit {0}
SameCell k (cell.Given e) (cell.Given y) = IsStored k e y
SameCell k c d = ⊥

abbrev pub SameCells : List ColumnDef → List TypedCell → List TypedCell → Type 0
SameCells [] [] [] = Unit {0}
SameCells (column ∷ columns) (c ∷ cs) (d ∷ ds) = SameCell column.kind c d × SameCells columns cs ds
SameCells columns cs ds = ⊥

value_same : (around : Around) (k : ColType) (next : ℤ) (c d : TypedCell) → SameCell k c d → cell_value around k next d ≡ cell_value around k next c
value_same around k next cell.Serial cell.Serial same = refl
value_same around k next cell.Now cell.Now same = refl
value_same around k next (cell.Given e) (cell.Given y) same = same (at_row around no_row)
value_same around k next cell.Serial cell.Now same = absurd same
value_same around k next cell.Serial (cell.Given y) same = absurd same
value_same around k next cell.Now cell.Serial same = absurd same
value_same around k next cell.Now (cell.Given y) same = absurd same
value_same around k next (cell.Given e) cell.Serial same = absurd same
value_same around k next (cell.Given e) cell.Now same = absurd same

draw_same : (k : ColType) (c d : TypedCell) → SameCell k c d → draws_in d ≡ draws_in c
draw_same k cell.Serial cell.Serial same = refl
draw_same k cell.Now cell.Now same = refl
draw_same k (cell.Given e) (cell.Given y) same = refl
draw_same k cell.Serial cell.Now same = absurd same
draw_same k cell.Serial (cell.Given y) same = absurd same
draw_same k cell.Now cell.Serial same = absurd same
draw_same k cell.Now (cell.Given y) same = absurd same
draw_same k (cell.Given e) cell.Serial same = absurd same
draw_same k (cell.Given e) cell.Now same = absurd same

cells_same : (around : Around) (columns : List ColumnDef) (next : ℤ) (cs ds : List TypedCell) → SameCells columns cs ds → cell_values around columns next ds ≡ cell_values around columns next cs
cells_same around [] next [] [] same = refl
cells_same around [] next [] (d ∷ ds) same = absurd same
cells_same around [] next (c ∷ cs) ds same = absurd same
cells_same around (column ∷ columns) next [] [] same = absurd same
cells_same around (column ∷ columns) next [] (d ∷ ds) same = absurd same
cells_same around (column ∷ columns) next (c ∷ cs) [] same = absurd same
cells_same around (column ∷ columns) next (c ∷ cs) (d ∷ ds) same =
    ap (λ (v : Outcome). v ∷ cell_values around columns (next +ℤ pos (draws_in d)) ds) (value_same around column.kind next c d same.0)
    ∙ (ap (λ (n : ℕ). cell_value around column.kind next c ∷ cell_values around columns (next +ℤ pos n) ds) (draw_same column.kind c d same.0)
    ∙ ap (λ (vs : List Outcome). cell_value around column.kind next c ∷ vs) (cells_same around columns (next +ℤ pos (draws_in c)) cs ds same.1))

draws_same : (columns : List ColumnDef) (cs ds : List TypedCell) → SameCells columns cs ds → map draws_in ds ≡ map draws_in cs
draws_same [] [] [] same = refl
draws_same [] [] (d ∷ ds) same = absurd same
draws_same [] (c ∷ cs) ds same = absurd same
draws_same (column ∷ columns) [] [] same = absurd same
draws_same (column ∷ columns) [] (d ∷ ds) same = absurd same
draws_same (column ∷ columns) (c ∷ cs) [] same = absurd same
draws_same (column ∷ columns) (c ∷ cs) (d ∷ ds) same =
    ap (λ (n : ℕ). n ∷ map draws_in ds) (draw_same column.kind c d same.0) ∙ ap (λ (ns : List ℕ). draws_in c ∷ ns) (draws_same columns cs ds same.1)

row_same : (columns : List ColumnDef) (cs ds : List TypedCell) → SameCells columns cs ds → row_draws ds ≡ row_draws cs
row_same columns cs ds same = ap sum (draws_same columns cs ds same)

abbrev row_by : View → ℕ → List ColumnDef → ℕ → List Value → List Outcome → Coded Change
row_by view table columns key earlier vs =
    behind (behind (all_of vs) (not_lacking columns)) (λ values.
    made (λ row. changed table (cell_at key row) (Some row))
    (unless_taken (is_taken view table earlier (cell_at key (row_of values))) (row_of values)))

module _ (around : Around) (view : View) (table : ℕ) (columns : List ColumnDef) (key : ℕ) where
  rows_same : (rows again : List (List TypedCell)) (earlier : List Value) (next : ℤ) → Pairs (SameCells columns) rows again
      → rows_given around view table columns key earlier next again ≡ rows_given around view table columns key earlier next rows
  rows_same [] [] earlier next same = refl
  rows_same [] (ds ∷ again) earlier next same = absurd same
  rows_same (cs ∷ rows) [] earlier next same = absurd same
  rows_same (cs ∷ rows) (ds ∷ again) earlier next same =
      ap (λ (vs : List Outcome). behind (row_by view table columns key earlier vs) (λ change.
      made (λ others. change ∷ others) (rows_given around view table columns key (earlier ++ change.key ∷ []) (next +ℤ pos (row_draws ds)) again)))
      (cells_same around columns next cs ds same.0)
      ∙ (ap (λ (n : ℕ). behind (row_by view table columns key earlier (cell_values around columns next cs)) (λ change.
      made (λ others. change ∷ others) (rows_given around view table columns key (earlier ++ change.key ∷ []) (next +ℤ pos n) again))) (row_same columns cs ds same.0)
      ∙ ap (λ (f : Change → Coded (List Change)). behind (row_by view table columns key earlier (cell_values around columns next cs)) f)
      (fun_ext (λ change. ap (made (λ others. change ∷ others)) (rows_same rows again (earlier ++ change.key ∷ []) (next +ℤ pos (row_draws cs)) same.1))))

pub all_same : (columns : List ColumnDef) (rows again : List (List TypedCell)) → Pairs (SameCells columns) rows again → all_draws again ≡ all_draws rows
all_same columns rows again same = ap sum (pairs_map (SameCells columns) row_draws row_draws (λ cs ds is. row_same columns cs ds is) rows again same)

pub insert_same : (around : Around) (view : View) (table : Option TableDef) (next : ℤ) (insert again : CheckedInsert) → again.table ≡ insert.table
    → Pairs (SameCells (columns_of table)) insert.rows again.rows → insert_in around view table next again ≡ insert_in around view table next insert
insert_same around view table next insert again tables same =
    ap (λ (n : ℕ). if is_spent (last_serial (serial_kind table)) next n then Err spent else rows_given around view again.table (columns_of table) (key_column table) [] next again.rows)
    (all_same (columns_of table) insert.rows again.rows same)
    ∙ (ap (λ (t : ℕ). if is_spent (last_serial (serial_kind table)) next (all_draws insert.rows) then Err spent else rows_given around view t (columns_of table) (key_column table) [] next again.rows) tables
    ∙ ap (λ (cs : Coded (List Change)). if is_spent (last_serial (serial_kind table)) next (all_draws insert.rows) then Err spent else cs)
    (rows_same around view insert.table (columns_of table) (key_column table) insert.rows again.rows [] next same))

pub insert_draws_same : (table : Option TableDef) (next : ℤ) (insert again : CheckedInsert) → Pairs (SameCells (columns_of table)) insert.rows again.rows
    → insert_draws table next again ≡ insert_draws table next insert
insert_draws_same table next insert again same =
    ap (λ (n : ℕ). if is_spent (last_serial (serial_kind table)) next n then 0 else n) (all_same (columns_of table) insert.rows again.rows same)

-- ---- UPDATE, DELETE

abbrev pub SameSet : List ColumnDef → TypedSet → TypedSet → Type 0
SameSet columns s t = (t.column ≡ s.column)
    × ((around : Around) → behind (value_in around t.expr) (as_column (kind_at columns s.column)) ≡ behind (value_in around s.expr) (as_column (kind_at columns s.column)))

sets_put : (columns : List ColumnDef) (ss ts : List TypedSet) → Pairs (SameSet columns) ss ts → (values cells : List Value) → put_sets ts values cells ≡ put_sets ss values cells
sets_put columns [] [] same values cells = refl
sets_put columns [] (t ∷ ts) same values cells = absurd same
sets_put columns (s ∷ ss) [] same values cells = absurd same
sets_put columns (s ∷ ss) (t ∷ ts) same [] cells = refl
sets_put columns (s ∷ ss) (t ∷ ts) same (v ∷ values) cells =
    ap (λ (n : ℕ). put_sets ts values (set cells n v)) same.0.0 ∙ sets_put columns ss ts same.1 values (set cells s.column v)

module _ (around : Around) (columns : List ColumnDef) (change again : CheckedChange) (tables : again.table ≡ change.table) (sets : Pairs (SameSet columns) change.sets again.sets)
    (filters : SameFilter change.filter again.filter) where
  set_same : (old : Row) (s t : TypedSet) → SameSet columns s t → set_value around columns old t ≡ set_value around columns old s
  set_same old s t same =
      ap (λ (n : ℕ). behind (value_in (at_row around old) t.expr) (as_column (kind_at columns n))) same.0 ∙ same.1 (at_row around old)

  cells_set_same : (old : Row) → cells_set around columns again.sets old ≡ cells_set around columns change.sets old
  cells_set_same old =
      ap (λ (f : List Value → List Value). made f (all_of (map (set_value around columns old) again.sets))) (fun_ext (λ values. sets_put columns change.sets again.sets sets values old.cells))
      ∙ ap (λ (vs : List Outcome). made (λ values. put_sets change.sets values old.cells) (all_of vs))
      (pairs_map (SameSet columns) (set_value around columns old) (set_value around columns old) (set_same old) change.sets again.sets sets)

  updated_same : (o : Option Entry) → updated around columns again o ≡ updated around columns change o
  updated_same None = refl
  updated_same (Some e) =
      ap (λ (t : ℕ). made (λ row. Some (changed t e.key (Some row))) (updated_row around columns again.sets e.row)) tables
      ∙ ap (λ (c : Coded (List Value)). made (λ row. Some (changed change.table e.key (Some row))) (behind c (λ cells. behind (not_lacking columns cells) (λ cells. fitting (row_of cells)))))
      (cells_set_same e.row)

  pub change_same : (view : View) → change_in around view columns again ≡ change_in around view columns change
  change_same view =
      ap (λ (f : Entry → Coded (Option Change)). walked f (entries_in view again.table))
      (fun_ext (λ e. ap (λ (k : Entry → Coded (Option Entry)). behind (k e) (updated around columns again)) (kept_same around change.filter again.filter filters)
      ∙ ap (λ (u : Option Entry → Coded (Option Change)). behind (kept around change.filter e) u) (fun_ext updated_same)))
      ∙ ap (λ (t : ℕ). walked (change_of around columns change) (entries_in view t)) tables

pub remove_same : (around : Around) (view : View) (remove again : CheckedRemove) → again.table ≡ remove.table → SameFilter remove.filter again.filter
    → remove_in around view again ≡ remove_in around view remove
remove_same around view remove again tables filters =
    ap (λ (t : ℕ). walked (λ e. made (removed t) (kept around again.filter e)) (entries_in view t)) tables
    ∙ ap (λ (k : Entry → Coded (Option Entry)). walked (λ e. made (removed remove.table) (k e)) (entries_in view remove.table)) (kept_same around remove.filter again.filter filters)
