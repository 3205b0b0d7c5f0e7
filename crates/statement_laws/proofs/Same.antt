-- What a statement at a moment does: what the statement does at that moment.
use Rattle.std.proofs.Common.{rules, ◌≡◌, ◌∙◌, ℕ, ℤ, pos, ◌+ℤ◌, List, [], ◌∷◌, ◌++◌, map, refl, ap, sym}
use Rattle.std.proofs.Math.Path.{fun_ext}
use Rattle.std.specs.Prelude.{length, set, slice_get, sum, option_map, true, Option, Some, None, Ok, Err, if◌then◌else◌}
use Rattle.pg_values.specs.declared.col_type.ColType.{ColType}
use Rattle.pg_values.specs.declared.col_type.ColType.TheVariants as kind
use Rattle.pg_values.specs.declared.value.Value.{Value}
use Rattle.pg_values.specs.declared.value.Value.TheVariants as value
use Rattle.schema.specs.declared.catalogue.ColumnDef.{ColumnDef}
use Rattle.schema.specs.declared.catalogue.TableDef.{TableDef}
use Rattle.catalogue.specs.declared.checked.CheckedBody.{CheckedBody}
use Rattle.catalogue.specs.declared.checked.CheckedBody.TheVariants as body
use Rattle.catalogue.specs.declared.checked.CheckedRead.{CheckedRead}
use Rattle.catalogue.specs.declared.checked.CheckedInsert.{CheckedInsert}
use Rattle.catalogue.specs.declared.checked.CheckedChange.{CheckedChange}
use Rattle.catalogue.specs.declared.checked.CheckedRemove.{CheckedRemove}
use Rattle.catalogue.specs.declared.checked.TypedCell.{TypedCell}
use Rattle.catalogue.specs.declared.checked.TypedCell.TheVariants as cell
use Rattle.catalogue.specs.declared.checked.TypedSet.{TypedSet}
use Rattle.typed_sql.specs.declared.typed.TypedExpr.{TypedExpr}
use Rattle.typed_sql.specs.declared.typed.TypedForm.{TypedForm, the_lemmas}
use Rattle.typed_sql.specs.declared.typed.TypedForm.TheOpen.{TypedForm-F}
use Rattle.typed_sql.specs.declared.typed.TypedForm.TheFolds.{fold-TypedForm, fold-roll-TypedForm}
use Rattle.typed_sql.specs.declared.typed.TypedForm.TheVariants as form
use Rattle.typed_sql.specs.Typing.{literal}
use Rattle.sql_values.specs.Outcome.{Outcome}
use Rattle.sql_values.specs.Logic.{is_truth}
use Rattle.sql_values.specs.Meaning.{Around, Summand, Factor, outcome_of, value_in}
use Rattle.sql_eval.specs.declared.row.Row.{Row}
use Rattle.sql_eval.specs.declared.effect.ReadEffect.{ReadEffect}
use Rattle.sql_eval.specs.declared.effect.Change.{Change}
use Rattle.sql_eval.specs.Views.{View, Entry, cell_at as cell_in, columns_of, entries_in, key_column}
use Rattle.sql_eval.specs.Walks.{Coded, all_of, behind, made, walked}
use Rattle.sql_eval.specs.Ordered.{ordered}
use Rattle.sql_eval.specs.Reads.{at_row, no_row, is_kept, where_kept, kept, limit_of, limit_in, cut, fitting, row_of, result_row, reading, counted, listed, shown, entries_read, read_in}
use Rattle.sql_eval.specs.Stored.{as_column, as_kind, change_in, change_of, cells_set, changed, kind_at, not_lacking, put_sets, removal_of, remove_in, removed, set_value, updated, updated_row}
use Rattle.sql_eval.specs.Inserts.{all_draws, cell_value, cell_values, cells_given, draws_in, insert_draws, insert_in, is_spent, is_taken, last_serial, row_draws, row_put_in, rows_given, serial_kind, spent, unless_taken}
use Rattle.sql_eval.specs.Effects.{Effect, Given, Reads, Writes, draws_of, effect_of, given_by}
use Rattle.time_rewrite.specs.Rewriting.{body_at, cell_at, expr_at, set_at}

-- an expression that is a value
literal_value : (around : Around) (k : ColType) (v : Value) → value_in around (literal k v) ≡ Ok v
literal_value around k v =
    let form_value : TypedForm → Outcome =
    fold-TypedForm Outcome Outcome Factor Summand (outcome_of around) (λ e. e.form) (λ f. (f.sign, f.part)) (λ s. (s.minus, s.part)) in
    let by_form : value_in around (literal k v) ≡ form_value (form.Literal v) = search (rules, the_lemmas) in
    by_form ∙ (ap form_value (sym (form.rolls-Literal v))
    ∙ fold-roll-TypedForm Outcome Outcome Factor Summand (outcome_of around) (λ e. e.form) (λ f. (f.sign, f.part)) (λ s. (s.minus, s.part)) (TypedForm-F.Literal v))

-- a moment is no number
moment_as : (k : ColType) (micros : ℤ) → as_kind k (value.Moment micros) ≡ Ok (value.Moment micros)
moment_as kind.Bool micros = refl
moment_as kind.Int4 micros = refl
moment_as kind.Int8 micros = refl
moment_as kind.Text micros = refl
moment_as kind.Moment micros = refl

-- ---- what is drawn, and where values are put

draw_same : (moment : ℤ) (c : TypedCell) → draws_in (cell_at moment c) ≡ draws_in c
draw_same moment cell.Serial = refl
draw_same moment cell.Now = refl
draw_same moment (cell.Given e) = refl

draws_same : (moment : ℤ) (cells : List TypedCell) → map draws_in (map (cell_at moment) cells) ≡ map draws_in cells
draws_same moment [] = refl
draws_same moment (c ∷ cells) =
    ap (λ (n : ℕ). n ∷ map draws_in (map (cell_at moment) cells)) (draw_same moment c)
    ∙ ap (λ (ns : List ℕ). draws_in c ∷ ns) (draws_same moment cells)

row_draws_same : (moment : ℤ) (cells : List TypedCell) → row_draws (map (cell_at moment) cells) ≡ row_draws cells
row_draws_same moment cells = ap sum (draws_same moment cells)

rows_draw_same : (moment : ℤ) (rows : List (List TypedCell)) → map row_draws (map (map (cell_at moment)) rows) ≡ map row_draws rows
rows_draw_same moment [] = refl
rows_draw_same moment (row ∷ rows) =
    ap (λ (n : ℕ). n ∷ map row_draws (map (map (cell_at moment)) rows)) (row_draws_same moment row)
    ∙ ap (λ (ns : List ℕ). row_draws row ∷ ns) (rows_draw_same moment rows)

all_draws_same : (moment : ℤ) (rows : List (List TypedCell)) → all_draws (map (map (cell_at moment)) rows) ≡ all_draws rows
all_draws_same moment rows = ap sum (rows_draw_same moment rows)

put_same : (moment : ℤ) (sets : List TypedSet) (values cells : List Value) → put_sets (map (set_at moment) sets) values cells ≡ put_sets sets values cells
put_same moment [] values cells = refl
put_same moment (s ∷ sets) [] cells = refl
put_same moment (s ∷ sets) (v ∷ values) cells = put_same moment sets values (set cells s.column v)

-- ---- effects, where each expression is the same

-- an expression at a moment comes to what it comes to at that moment
abbrev pub IsSame : Type 0
IsSame = (around : Around) (moment : ℤ) (e : TypedExpr) → value_in around (expr_at moment e) ≡ value_in (record around { moment = moment }) e

module _ (same : IsSame) (around : Around) (moment : ℤ) where
  abbrev there : Around
  there = record around { moment = moment }

  expr_same : (row : Row) (e : TypedExpr) → value_in (at_row around row) (expr_at moment e) ≡ value_in (at_row there row) e
  expr_same row e = same (at_row around row) moment e

  exprs_same : (row : Row) (es : List TypedExpr) → map (value_in (at_row around row)) (map (expr_at moment) es) ≡ map (value_in (at_row there row)) es
  exprs_same row [] = refl
  exprs_same row (e ∷ es) =
      ap (λ (v : Outcome). v ∷ map (value_in (at_row around row)) (map (expr_at moment) es)) (expr_same row e)
      ∙ ap (λ (vs : List Outcome). value_in (at_row there row) e ∷ vs) (exprs_same row es)

  stays_same : (filter : Option TypedExpr) (row : Row) → is_kept around (option_map (expr_at moment) filter) row ≡ is_kept there filter row
  stays_same None row = refl
  stays_same (Some e) row = ap (made (is_truth true)) (expr_same row e)

  kept_same : (filter : Option TypedExpr) → kept around (option_map (expr_at moment) filter) ≡ kept there filter
  kept_same filter = fun_ext (λ e. ap (made (where_kept e)) (stays_same filter e.row))

  -- SELECT

  abbrev read_at : CheckedRead → CheckedRead
  read_at read = record read {
    list = map (expr_at moment) read.list;
    filter = option_map (expr_at moment) read.filter;
    limit = option_map (expr_at moment) read.limit;
  }

  result_same : (list : List TypedExpr) (row : Row) → result_row around (map (expr_at moment) list) row ≡ result_row there list row
  result_same list row = ap (λ (vs : List Outcome). behind (all_of vs) (λ cells. fitting (row_of cells))) (exprs_same row list)

  listed_same : (read : CheckedRead) (es : List Entry) → listed around (read_at read) es ≡ listed there read es
  listed_same read es =
      ap (λ (f : Row → Coded Row). made (reading read.for_update es) (all_of (map (λ e. f e.row) es))) (fun_ext (λ row. result_same read.list row))

  limit_same : (limit : Option TypedExpr) → limit_in around (option_map (expr_at moment) limit) ≡ limit_in there limit
  limit_same None = refl
  limit_same (Some e) = ap (λ (o : Outcome). behind o limit_of) (expr_same no_row e)

  shown_same : (read : CheckedRead) (es : List Entry) → shown around (read_at read) es ≡ shown there read es
  shown_same read es =
      ap (λ (l : Coded (Option ℕ)). if read.count then Ok (counted (length es)) else behind l (λ limit. listed around (read_at read) (cut limit (ordered read.order es)))) (limit_same read.limit)
      ∙ ap (λ (f : List Entry → Coded ReadEffect). if read.count then Ok (counted (length es)) else behind (limit_in there read.limit) (λ limit. f (cut limit (ordered read.order es))))
      (fun_ext (λ es. listed_same read es))

  read_same : (view : View) (read : CheckedRead) → read_in around view (read_at read) ≡ read_in there view read
  read_same view read =
      ap (λ (k : Entry → Coded (Option Entry)). behind (walked k (entries_read view read.table)) (shown around (read_at read))) (kept_same read.filter)
      ∙ ap (λ (s : List Entry → Coded ReadEffect). behind (walked (kept there read.filter) (entries_read view read.table)) s) (fun_ext (λ es. shown_same read es))

  -- UPDATE and DELETE

  set_same : (columns : List ColumnDef) (old : Row) (s : TypedSet) → set_value around columns old (set_at moment s) ≡ set_value there columns old s
  set_same columns old s = ap (λ (o : Outcome). behind o (as_column (kind_at columns s.column))) (expr_same old s.expr)

  sets_same : (columns : List ColumnDef) (old : Row) (sets : List TypedSet) → map (set_value around columns old) (map (set_at moment) sets) ≡ map (set_value there columns old) sets
  sets_same columns old [] = refl
  sets_same columns old (s ∷ sets) =
      ap (λ (v : Outcome). v ∷ map (set_value around columns old) (map (set_at moment) sets)) (set_same columns old s)
      ∙ ap (λ (vs : List Outcome). set_value there columns old s ∷ vs) (sets_same columns old sets)

  cells_same : (columns : List ColumnDef) (sets : List TypedSet) (old : Row) → cells_set around columns (map (set_at moment) sets) old ≡ cells_set there columns sets old
  cells_same columns sets old =
      ap (λ (f : List Value → List Value). made f (all_of (map (set_value around columns old) (map (set_at moment) sets)))) (fun_ext (λ values. put_same moment sets values old.cells))
      ∙ ap (λ (os : List Outcome). made (λ values. put_sets sets values old.cells) (all_of os)) (sets_same columns old sets)

  row_same : (columns : List ColumnDef) (sets : List TypedSet) (old : Row) → updated_row around columns (map (set_at moment) sets) old ≡ updated_row there columns sets old
  row_same columns sets old =
      ap (λ (o : Coded (List Value)). behind o (λ cells. behind (not_lacking columns cells) (λ cells. fitting (row_of cells)))) (cells_same columns sets old)

  abbrev change_at : CheckedChange → CheckedChange
  change_at change = record change { sets = map (set_at moment) change.sets; filter = option_map (expr_at moment) change.filter }

  updated_same : (columns : List ColumnDef) (change : CheckedChange) (found : Option Entry) → updated around columns (change_at change) found ≡ updated there columns change found
  updated_same columns change None = refl
  updated_same columns change (Some e) = ap (made (λ (row : Row). Some (changed change.table e.key (Some row)))) (row_same columns change.sets e.row)

  one_change_same : (columns : List ColumnDef) (change : CheckedChange) (e : Entry) → change_of around columns (change_at change) e ≡ change_of there columns change e
  one_change_same columns change e =
      ap (λ (k : Entry → Coded (Option Entry)). behind (k e) (updated around columns (change_at change))) (kept_same change.filter)
      ∙ ap (λ (u : Option Entry → Coded (Option Change)). behind (kept there change.filter e) u) (fun_ext (λ found. updated_same columns change found))

  change_same : (view : View) (columns : List ColumnDef) (change : CheckedChange) → change_in around view columns (change_at change) ≡ change_in there view columns change
  change_same view columns change =
      ap (λ (f : Entry → Coded (Option Change)). walked f (entries_in view change.table)) (fun_ext (λ e. one_change_same columns change e))

  abbrev remove_at : CheckedRemove → CheckedRemove
  remove_at remove = record remove { filter = option_map (expr_at moment) remove.filter }

  remove_same : (view : View) (remove : CheckedRemove) → remove_in around view (remove_at remove) ≡ remove_in there view remove
  remove_same view remove =
      ap (λ (k : Entry → Coded (Option Entry)). walked (λ e. made (removed remove.table) (k e)) (entries_in view remove.table)) (kept_same remove.filter)

  -- INSERT

  cell_same : (k : ColType) (next : ℤ) (c : TypedCell) → cell_value around k next (cell_at moment c) ≡ cell_value there k next c
  cell_same k next cell.Serial = refl
  cell_same k next cell.Now =
      ap (λ (o : Outcome). behind o (as_kind k)) (literal_value (at_row around no_row) kind.Moment (value.Moment moment)) ∙ moment_as k moment
  cell_same k next (cell.Given e) = ap (λ (o : Outcome). behind o (as_kind k)) (expr_same no_row e)

  values_same : (columns : List ColumnDef) (next : ℤ) (cells : List TypedCell) → cell_values around columns next (map (cell_at moment) cells) ≡ cell_values there columns next cells
  values_same [] next cells = refl
  values_same (column ∷ columns) next [] = refl
  values_same (column ∷ columns) next (c ∷ cells) =
      ap (λ (v : Outcome). v ∷ cell_values around columns (next +ℤ pos (draws_in (cell_at moment c))) (map (cell_at moment) cells)) (cell_same column.kind next c)
      ∙ (ap (λ (n : ℕ). cell_value there column.kind next c ∷ cell_values around columns (next +ℤ pos n) (map (cell_at moment) cells)) (draw_same moment c)
      ∙ ap (λ (vs : List Outcome). cell_value there column.kind next c ∷ vs) (values_same columns (next +ℤ pos (draws_in c)) cells))

  given_cells_same : (columns : List ColumnDef) (next : ℤ) (cells : List TypedCell) → cells_given around columns next (map (cell_at moment) cells) ≡ cells_given there columns next cells
  given_cells_same columns next cells = ap (λ (os : List Outcome). behind (all_of os) (not_lacking columns)) (values_same columns next cells)

  module _ (view : View) (table : ℕ) (columns : List ColumnDef) (key : ℕ) where
    row_put_same : (earlier : List Value) (next : ℤ) (cells : List TypedCell)
        → row_put_in around view table columns key earlier next (map (cell_at moment) cells) ≡ row_put_in there view table columns key earlier next cells
    row_put_same earlier next cells =
        ap (λ (o : Coded (List Value)). behind o (λ values. made (λ row. changed table (cell_in key row) (Some row))
        (unless_taken (is_taken view table earlier (cell_in key (row_of values))) (row_of values)))) (given_cells_same columns next cells)

    rows_same : (earlier : List Value) (next : ℤ) (rows : List (List TypedCell))
        → rows_given around view table columns key earlier next (map (map (cell_at moment)) rows) ≡ rows_given there view table columns key earlier next rows
    rows_same earlier next [] = refl
    rows_same earlier next (cells ∷ rows) =
        ap (λ (o : Coded Change). behind o (λ change. made (λ others. change ∷ others)
        (rows_given around view table columns key (earlier ++ change.key ∷ []) (next +ℤ pos (row_draws (map (cell_at moment) cells))) (map (map (cell_at moment)) rows)))) (row_put_same earlier next cells)
        ∙ (ap (λ (n : ℕ). behind (row_put_in there view table columns key earlier next cells) (λ change. made (λ others. change ∷ others)
        (rows_given around view table columns key (earlier ++ change.key ∷ []) (next +ℤ pos n) (map (map (cell_at moment)) rows)))) (row_draws_same moment cells)
        ∙ ap (λ (f : Change → Coded (List Change)). behind (row_put_in there view table columns key earlier next cells) f)
        (fun_ext (λ change. ap (made (λ (others : List Change). change ∷ others)) (rows_same (earlier ++ change.key ∷ []) (next +ℤ pos (row_draws cells)) rows))))

  abbrev insert_at : CheckedInsert → CheckedInsert
  insert_at insert = record insert { rows = map (map (cell_at moment)) insert.rows }

  insert_same : (view : View) (table : Option TableDef) (next : ℤ) (insert : CheckedInsert) → insert_in around view table next (insert_at insert) ≡ insert_in there view table next insert
  insert_same view table next insert =
      ap (λ (n : ℕ). if is_spent (last_serial (serial_kind table)) next n then Err spent
      else rows_given around view insert.table (columns_of table) (key_column table) [] next (map (map (cell_at moment)) insert.rows)) (all_draws_same moment insert.rows)
      ∙ ap (λ (o : Coded (List Change)). if is_spent (last_serial (serial_kind table)) next (all_draws insert.rows) then Err spent else o)
      (rows_same view insert.table (columns_of table) (key_column table) [] next insert.rows)

  -- ---- the whole

  given_same : (tables : List TableDef) (b : CheckedBody) (view : View) (next : ℤ) → given_by around tables (body_at moment b) view next ≡ given_by there tables b view next
  given_same tables (body.Read read) view next = ap (made Reads) (read_same view read)
  given_same tables (body.Insert insert) view next = ap (made Writes) (insert_same view (slice_get tables insert.table) next insert)
  given_same tables (body.Change change) view next = ap (made Writes) (change_same view (columns_of (slice_get tables change.table)) change)
  given_same tables (body.Remove remove) view next = ap (made Writes) (remove_same view remove)

  drawn_same : (tables : List TableDef) (b : CheckedBody) (next : ℤ) → draws_of tables (body_at moment b) next ≡ draws_of tables b next
  drawn_same tables (body.Read read) next = refl
  drawn_same tables (body.Insert insert) next =
      ap (λ (n : ℕ). if is_spent (last_serial (serial_kind (slice_get tables insert.table))) next n then 0 else n) (all_draws_same moment insert.rows)
  drawn_same tables (body.Change change) next = refl
  drawn_same tables (body.Remove remove) next = refl

  pub effect_same : (tables : List TableDef) (b : CheckedBody) (view : View) (next : ℤ) → effect_of around tables (body_at moment b) view next ≡ effect_of there tables b view next
  effect_same tables b view next = λ i. record { draws = drawn_same tables b next i; given = given_same tables b view next i }
