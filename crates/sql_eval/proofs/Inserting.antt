-- The cells and the rows of an INSERT one by one.
use Rattle.std.proofs.Common.{◌≡◌, ℕ, zero, suc, ◌+◌, ◌<◌, ◌≤◌, List, [], ◌∷◌, ◌++◌, map, drop, get_or, length, ap, sym, ◌∙◌, refl}
use Rattle.std.specs.Prelude.{ℤ, pos, ◌+ℤ◌, Bool as Truth, true, false, nat_lt, Some, None, Ok, Err, slice_get, if◌then◌else◌}
use Rattle.std.proofs.lemmas.List.{at_drop_more, drop_all, map_push}
use Rattle.std.proofs.lemmas.Option.{slice_get_within, get_or_from_slice_get}
use Rattle.pg_values.specs.declared.value.Value.{Value}
use Rattle.schema.specs.declared.catalogue.ColumnDef.{ColumnDef}
use Rattle.catalogue.specs.declared.checked.TypedCell.{TypedCell}
use Rattle.sql_values.specs.Outcome.{Outcome, too_large}
use Rattle.sql_values.specs.Meaning.{Around}
use Rattle.sql_eval.specs.declared.effect.Change.{Change}
use Rattle.sql_eval.specs.declared.row.Row.{Row}
use Rattle.sql_eval.specs.Views.{View, cell_at}
use Rattle.sql_eval.specs.Walks.{Coded, behind, made, all_of}
use Rattle.sql_eval.specs.Inserts.{draws_in, row_draws, cell_value, cell_values, cells_given, is_taken, row_put_in, rows_given, unless_taken}
use Rattle.sql_eval.specs.Reads.{fitting, row_of, row_size}
use Rattle.sql_eval.specs.Stored.{changed}
use Rattle.sql_eval.proofs.Walking.{put_before, one_before, whole_before}

-- ---- cells

dropped : {A : Type 0} (xs : List A) (i : ℕ) (x : A) → slice_get xs i ≡ Some x → drop i xs ≡ x ∷ drop (i + 1) xs
dropped xs i x is = at_drop_more (λ ys. ys) xs i x (slice_get_within xs i x is) ∙ ap (λ y. y ∷ drop (i + 1) xs) (get_or_from_slice_get xs i x x is)

dropped_all : {A : Type 0} (xs : List A) (i : ℕ) → slice_get xs i ≡ None → drop i xs ≡ []
dropped_all [] zero is = refl
dropped_all [] (suc i) is = refl
dropped_all (x ∷ xs) zero is = absurd (cc)
dropped_all (x ∷ xs) (suc i) is = dropped_all xs i is

no_cells : (around : Around) (columns : List ColumnDef) (next : ℤ) → cell_values around columns next [] ≡ []
no_cells around [] next = refl
no_cells around (column ∷ columns) next = refl

module _ (around : Around) (columns : List ColumnDef) (i : ℕ) (cells : List TypedCell) (values : List Value) (next : ℤ) (whole : Coded (List Value))
    (so_far : put_before values (all_of (cell_values around (drop i columns) next (drop i cells))) ≡ whole) where
  -- there are no more cells
  pub values_end : slice_get cells i ≡ None → whole ≡ Ok values
  values_end none =
      sym so_far ∙ (ap (λ cs. put_before values (all_of (cell_values around (drop i columns) next cs))) (dropped_all cells i none)
      ∙ (ap (λ os. put_before values (all_of os)) (no_cells around (drop i columns) next) ∙ whole_before values))

  -- there are no more columns
  pub values_done : length columns ≤ i → whole ≡ Ok values
  values_done long =
      sym so_far ∙ (ap (λ cs. put_before values (all_of (cell_values around cs next (drop i cells)))) (drop_all i columns long) ∙ whole_before values)

  module _ (column : ColumnDef) (cell : TypedCell) (below : i < length columns) (is : column ≡ get_or columns i column) (cell_is : slice_get cells i ≡ Some cell) where
    abbrev with_first : Outcome → Coded (List Value)
    with_first o = put_before values (behind o (λ a. made (λ others. a ∷ others)
        (all_of (cell_values around (drop (i + 1) columns) (next +ℤ pos (draws_in cell)) (drop (i + 1) cells)))))

    values_stepped : whole ≡ with_first (cell_value around column.kind next cell)
    values_stepped =
        sym so_far ∙ (ap (λ cs. put_before values (all_of (cell_values around (drop i columns) next cs))) (dropped cells i cell cell_is)
        ∙ (at_drop_more (λ cs. put_before values (all_of (cell_values around cs next (cell ∷ drop (i + 1) cells)))) columns i column below
        ∙ ap (λ (c : ColumnDef). with_first (cell_value around c.kind next cell)) (sym is)))

    pub values_stop : (code : List ℕ) → cell_value around column.kind next cell ≡ Err code → whole ≡ Err code
    values_stop code fails = values_stepped ∙ ap with_first fails

    pub values_next : (v : Value) → cell_value around column.kind next cell ≡ Ok v
        → put_before (values ++ v ∷ []) (all_of (cell_values around (drop (i + 1) columns) (next +ℤ pos (draws_in cell)) (drop (i + 1) cells))) ≡ whole
    values_next v gives =
        sym (values_stepped ∙ (ap with_first gives
        ∙ one_before values v (all_of (cell_values around (drop (i + 1) columns) (next +ℤ pos (draws_in cell)) (drop (i + 1) cells)))))

-- ---- a row

small_row : (large : Truth) (row after : Row) → ◌≡◌ {A = Coded Row} (if large then Err too_large else Ok row) (Ok after) → row ≡ after
small_row true row after is = absurd (cc)
small_row false row after is = cc

-- what may be put in is the row itself
same_row : (taken : Truth) (row after : Row) → unless_taken taken row ≡ Ok after → row ≡ after
same_row true row after is = absurd (cc)
same_row false row after is = small_row (nat_lt 1048000 (row_size row)) row after is

module _ (around : Around) (view : View) (table : ℕ) (columns : List ColumnDef) (key : ℕ) (earlier : List Value) (next : ℤ) (cells : List TypedCell) where
  abbrev with_values : Coded (List Value) → Coded Change
  with_values o = behind o (λ values. made (λ row. changed table (cell_at key row) (Some row))
      (unless_taken (is_taken view table earlier (cell_at key (row_of values))) (row_of values)))

  pub put_stops : (code : List ℕ) → cells_given around columns next cells ≡ Err code → row_put_in around view table columns key earlier next cells ≡ Err code
  put_stops code fails = ap with_values fails

  module _ (row : Row) (own : Value) (taken : Truth) (gives : cells_given around columns next cells ≡ Ok row.cells)
      (own_is : ◌≡◌ {A = Coded Value} (Ok (cell_at key row)) (Ok own)) (taken_is : taken ≡ is_taken view table earlier own) where
    same_key : cell_at key row ≡ own
    same_key = cc

    put_by : row_put_in around view table columns key earlier next cells ≡ made (λ row. changed table (cell_at key row) (Some row)) (unless_taken taken row)
    put_by = ap with_values gives ∙ ap (λ (b : Truth). made (λ row. changed table (cell_at key row) (Some row)) (unless_taken b row))
        (ap (is_taken view table earlier) same_key ∙ sym taken_is)

    pub put_refused : (code : List ℕ) → unless_taken taken row ≡ Err code → row_put_in around view table columns key earlier next cells ≡ Err code
    put_refused code fails = put_by ∙ ap (made (λ row. changed table (cell_at key row) (Some row))) fails

    pub put_is : (after : Row) → unless_taken taken row ≡ Ok after → row_put_in around view table columns key earlier next cells ≡ Ok (changed table own (Some after))
    put_is after fits = put_by ∙ (ap (made (λ row. changed table (cell_at key row) (Some row))) fits
        ∙ ap (λ (k : Value). Ok (changed table k (Some after))) (ap (cell_at key) (sym (same_row taken row after fits)) ∙ same_key))

-- ---- rows

abbrev keys_of : List Change → List Value
keys_of changes = map (λ (c : Change). c.key) changes

module _ (around : Around) (view : View) (table : ℕ) (columns : List ColumnDef) (key : ℕ) (rows : List (List TypedCell)) (i : ℕ) (cells : List TypedCell)
    (front : List Change) (next : ℤ) (whole : Coded (List Change)) (below : i < length rows) (is : cells ≡ get_or rows i cells)
    (so_far : put_before front (rows_given around view table columns key (keys_of front) next (drop i rows)) ≡ whole) where
  abbrev after_row : List TypedCell → Coded Change → Coded (List Change)
  after_row row o = put_before front (behind o (λ change. made (λ others. change ∷ others)
      (rows_given around view table columns key (keys_of front ++ change.key ∷ []) (next +ℤ pos (row_draws row)) (drop (i + 1) rows))))

  rows_stepped : whole ≡ after_row cells (row_put_in around view table columns key (keys_of front) next cells)
  rows_stepped =
      sym so_far ∙ (at_drop_more (λ rs. put_before front (rows_given around view table columns key (keys_of front) next rs)) rows i cells below
      ∙ ap (λ row. after_row row (row_put_in around view table columns key (keys_of front) next row)) (sym is))

  pub rows_stop : (code : List ℕ) → row_put_in around view table columns key (keys_of front) next cells ≡ Err code → whole ≡ Err code
  rows_stop code fails = rows_stepped ∙ ap (after_row cells) fails

  pub rows_next : (change : Change) → row_put_in around view table columns key (keys_of front) next cells ≡ Ok change
      → put_before (front ++ change ∷ []) (rows_given around view table columns key (keys_of (front ++ change ∷ [])) (next +ℤ pos (row_draws cells)) (drop (i + 1) rows)) ≡ whole
  rows_next change gives =
      sym (rows_stepped ∙ (ap (after_row cells) gives
      ∙ (one_before front change (rows_given around view table columns key (keys_of front ++ change.key ∷ []) (next +ℤ pos (row_draws cells)) (drop (i + 1) rows))
      ∙ ap (λ keys. put_before (front ++ change ∷ []) (rows_given around view table columns key keys (next +ℤ pos (row_draws cells)) (drop (i + 1) rows)))
      (sym (map_push (λ (c : Change). c.key) front change)))))

-- all rows were gone through
pub rows_done : (around : Around) (view : View) (table : ℕ) (columns : List ColumnDef) (key : ℕ) (rows : List (List TypedCell)) (i : ℕ) (front : List Change) (next : ℤ) (whole : Coded (List Change))
    → length rows ≤ i → put_before front (rows_given around view table columns key (keys_of front) next (drop i rows)) ≡ whole → whole ≡ Ok front
rows_done around view table columns key rows i front next whole long so_far =
    sym so_far ∙ (ap (λ rs. put_before front (rows_given around view table columns key (keys_of front) next rs)) (drop_all i rows long) ∙ whole_before front)
