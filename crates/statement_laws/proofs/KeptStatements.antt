-- A statement that is of the tables stays so at a moment.
use Rattle.std.proofs.Common.{◌≡◌, ℕ, zero, suc, ℤ, List, [], ◌∷◌, length, map, ap, sym, ◌∙◌, refl, subst}
use Rattle.std.proofs.lemmas.List.{length-map}
use Rattle.std.specs.Prelude.{◌&&◌, ◌||◌, ◌==◌, not, nat_lt, Bool as Truth, true, false, Option, Some, None, IfSome, slice_get}
use Rattle.std.specs.List.{AllByRecursion, list_all, list_any}
use Rattle.std.specs.Option.{option_map}
use Rattle.pg_values.specs.declared.col_type.ColType.{ColType}
use Rattle.pg_values.specs.declared.col_type.ColType.TheVariants.{Bool, Int4, Int8, Text, Moment}
use Rattle.pg_values.specs.declared.value.Value.{Value}
use Rattle.pg_values.specs.declared.value.Value.TheVariants as value
use Rattle.schema.specs.declared.catalogue.ColumnDef.{ColumnDef}
use Rattle.schema.specs.declared.catalogue.TableDef.{TableDef}
use Rattle.typed_sql.specs.declared.asks.Takes.TheVariants.{Whole, Like}
use Rattle.typed_sql.specs.declared.typed.TypedExpr.{TypedExpr}
use Rattle.typed_sql.specs.declared.typed.TypedForm.{TypedForm, out-TypedForm, roll-TypedForm, roll-out-TypedForm}
use Rattle.typed_sql.specs.declared.typed.TypedForm.TheOpen.{TypedForm-F}
use Rattle.typed_sql.specs.declared.typed.TypedProductPart.{TypedProductPart}
use Rattle.typed_sql.specs.declared.typed.TypedSumPart.{TypedSumPart}
use Rattle.typed_sql.specs.declared.typed.TypedForm.TheVariants as form
use Rattle.typed_sql.specs.Places.{same_kind, takes as takes_kind}
use Rattle.catalogue.specs.declared.checked.Checked.{Checked}
use Rattle.catalogue.specs.declared.checked.CheckedBody.{CheckedBody}
use Rattle.catalogue.specs.declared.checked.CheckedBody.TheVariants as body
use Rattle.catalogue.specs.declared.checked.CheckedRead.{CheckedRead}
use Rattle.catalogue.specs.declared.checked.CheckedInsert.{CheckedInsert}
use Rattle.catalogue.specs.declared.checked.CheckedChange.{CheckedChange}
use Rattle.catalogue.specs.declared.checked.CheckedRemove.{CheckedRemove}
use Rattle.catalogue.specs.declared.checked.ColumnDesc.{ColumnDesc}
use Rattle.catalogue.specs.declared.checked.TypedCell.{TypedCell}
use Rattle.catalogue.specs.declared.checked.TypedCell.TheVariants as cell
use Rattle.catalogue.specs.declared.checked.TypedSet.{TypedSet}
use Rattle.checked_sql.specs.Sound.{is_moment, is_sound, is_value, stands}
use Rattle.checked_sql.specs.OfCatalogue.{are_apart, are_cells, are_results, around, is_bare, is_body, is_cell, is_change, is_count, is_count_result, is_empty, is_filter, is_insert, is_limit, is_limit_form, is_limit_layer, is_list, is_none, is_of, is_order, is_plain, is_read_at, is_read_from, is_read_of, is_remove, is_result, is_rows, is_set, is_value_of, is_written_form, is_name, is_now, of_table}
use Rattle.typed_sql.specs.Typing.{literal}
use Rattle.time_rewrite.specs.Rewriting.{at_moment, body_at, cell_at, expr_at, form_at, set_at}
use Rattle.time_rewrite.proofs.Forms.{expr_by_form}
use Rattle.statement_laws.proofs.At.{at_literal, at_minus, at_param}
use Rattle.checked_sql.proofs.Limits.{limit_literal, limit_minus, limit_param}
use Rattle.checked_sql.proofs.Kept.{and_true, both_true}
use Rattle.statement_laws.proofs.SoundNodes.{literal_sound}
use Rattle.statement_laws.proofs.Kept.{kind_stays, sound_kept, stood_kept}

-- ---- what does not depend on the types of the parameters

empty_map : {A B : Type 0} (f : A → B) (xs : List A) → is_empty (map f xs) ≡ is_empty xs
empty_map f [] = refl
empty_map f (x ∷ xs) = refl

none_map : {A B : Type 0} (f : A → B) (o : Option A) → is_none (option_map f o) ≡ is_none o
none_map f None = refl
none_map f (Some x) = refl

-- a column that is filled with the moment is one of moments
abbrev pub IsTimely : ColumnDef → Type 0
IsTimely column = is_now column.fill ≡ true → column.kind ≡ Moment

abbrev pub IsTimelyTable : TableDef → Type 0
IsTimelyTable table = AllByRecursion IsTimely table.columns

-- a SELECT at a moment
abbrev read_at : ℤ → CheckedRead → CheckedRead
read_at moment read = record read {
  list = map (expr_at moment) read.list;
  filter = option_map (expr_at moment) read.filter;
  limit = option_map (expr_at moment) read.limit;
}

module _ (moment : ℤ) where
  results_stay : (es : List TypedExpr) (columns : List ColumnDesc) → are_results (map (expr_at moment) es) columns ≡ are_results es columns
  results_stay [] columns = refl
  results_stay (e ∷ es) [] = refl
  results_stay (e ∷ es) (column ∷ columns) =
      ap (λ (k : ColType). (same_kind column.kind k && is_name column.name) && are_results (map (expr_at moment) es) columns) (kind_stays moment e)
      ∙ ap (λ (b : Truth). is_result e column && b) (results_stay es columns)

  columns_stay : (sets : List TypedSet) (column : ℕ) → list_any (λ s. s.column == column) (map (set_at moment) sets) ≡ list_any (λ s. s.column == column) sets
  columns_stay [] column = refl
  columns_stay (set ∷ sets) column = ap (λ (b : Truth). (set.column == column) || b) (columns_stay sets column)

  apart_stay : (sets : List TypedSet) → are_apart (map (set_at moment) sets) ≡ are_apart sets
  apart_stay [] = refl
  apart_stay (set ∷ sets) =
      ap (λ (b : Truth). not b && are_apart (map (set_at moment) sets)) (columns_stay sets set.column)
      ∙ ap (λ (b : Truth). not (list_any (λ s. s.column == set.column) sets) && b) (apart_stay sets)

  written_kept : (f : TypedForm) → is_written_form f ≡ true → is_written_form (form_at moment f) ≡ true
  written_kept (form.Literal v) is = ap is_written_form (at_literal moment (form.Literal v) v refl) ∙ is
  written_kept f is = absurd (let g : false ≡ true = is in cc)

  layer_kept : (d : TypedForm-F TypedForm TypedExpr TypedProductPart TypedSumPart) → is_limit_layer d ≡ true → is_limit_form (form_at moment (roll-TypedForm d)) ≡ true
  layer_kept (TypedForm-F.Param n) is = limit_param (form_at moment (roll-TypedForm (TypedForm-F.Param n))) n (at_param moment (roll-TypedForm (TypedForm-F.Param n)) n (form.rolls-Param n))
  layer_kept (TypedForm-F.Literal v) is = limit_literal (form_at moment (roll-TypedForm (TypedForm-F.Literal v))) v (at_literal moment (roll-TypedForm (TypedForm-F.Literal v)) v (form.rolls-Literal v))
  layer_kept (TypedForm-F.Minus e) is =
      limit_minus (form_at moment (roll-TypedForm (TypedForm-F.Minus e))) (expr_at moment e) (at_minus moment (roll-TypedForm (TypedForm-F.Minus e)) e (form.rolls-Minus e))
      ∙ (ap (λ (x : TypedExpr). is_written_form x.form) (expr_by_form moment e) ∙ written_kept e.form is)
  layer_kept d is = absurd (let g : false ≡ true = is in cc)

  limit_kept : (f : TypedForm) → is_limit_form f ≡ true → is_limit_form (form_at moment f) ≡ true
  limit_kept f is = ap (λ (g : TypedForm). is_limit_form (form_at moment g)) (sym (roll-out-TypedForm f)) ∙ layer_kept (out-TypedForm f) is

-- ---- what does

module _ (kinds : List ColType) (moment : ℤ) (within : is_moment moment ≡ true) where
  module _ (columns : List ColumnDef) where
    filter_kept : (filter : Option TypedExpr) → is_filter (around columns kinds) filter ≡ true → is_filter (around columns kinds) (option_map (expr_at moment) filter) ≡ true
    filter_kept None is = refl
    filter_kept (Some e) is = stood_kept columns kinds moment within (Like Bool) e is

    limits_kept : (limit : Option TypedExpr) → is_limit (around columns kinds) limit ≡ true → is_limit (around columns kinds) (option_map (expr_at moment) limit) ≡ true
    limits_kept None is = refl
    limits_kept (Some e) is =
        let both = and_true (is_limit_form e.form) (stands (around columns kinds) Whole e) is in
        both_true (is_limit_form (expr_at moment e).form) (stands (around columns kinds) Whole (expr_at moment e))
        (ap (λ (x : TypedExpr). is_limit_form x.form) (expr_by_form moment e) ∙ limit_kept moment e.form both.0)
        (stood_kept columns kinds moment within Whole e both.1)

    sounds_kept : (es : List TypedExpr) → list_all (is_sound (around columns kinds)) es ≡ true → list_all (is_sound (around columns kinds)) (map (expr_at moment) es) ≡ true
    sounds_kept [] is = refl
    sounds_kept (e ∷ es) is =
        let both = and_true (is_sound (around columns kinds) e) (list_all (is_sound (around columns kinds)) es) is in
        both_true (is_sound (around columns kinds) (expr_at moment e)) (list_all (is_sound (around columns kinds)) (map (expr_at moment) es))
        (sound_kept columns kinds moment within e both.0) (sounds_kept es both.1)

    list_kept : (es : List TypedExpr) → is_list (around columns kinds) es ≡ true → is_list (around columns kinds) (map (expr_at moment) es) ≡ true
    list_kept es is =
        let some = and_true (not (is_empty es)) (nat_lt (length es) 1665 && list_all (is_sound (around columns kinds)) es) is in
        let few = and_true (nat_lt (length es) 1665) (list_all (is_sound (around columns kinds)) es) some.1 in
        both_true (not (is_empty (map (expr_at moment) es))) (nat_lt (length (map (expr_at moment) es)) 1665 && list_all (is_sound (around columns kinds)) (map (expr_at moment) es))
        (ap not (empty_map (expr_at moment) es) ∙ some.0)
        (both_true (nat_lt (length (map (expr_at moment) es)) 1665) (list_all (is_sound (around columns kinds)) (map (expr_at moment) es))
        (ap (λ (n : ℕ). nat_lt n 1665) (length-map es (expr_at moment)) ∙ few.0) (sounds_kept es few.1))

    -- no order, limit and FOR UPDATE
    plain_kept : (read : CheckedRead) → is_plain read ≡ true → is_plain (read_at moment read) ≡ true
    plain_kept read is = ap (λ (b : Truth). is_empty read.order && (b && not read.for_update)) (none_map (expr_at moment) read.limit) ∙ is

    count_kept : (read : CheckedRead) (results : List ColumnDesc) → is_count (around columns kinds) read results ≡ true → is_count (around columns kinds) (read_at moment read) results ≡ true
    count_kept read results is =
        let a = and_true (is_empty read.list) (is_plain read && (is_filter (around columns kinds) read.filter && is_count_result results)) is in
        let b = and_true (is_plain read) (is_filter (around columns kinds) read.filter && is_count_result results) a.1 in
        let c = and_true (is_filter (around columns kinds) read.filter) (is_count_result results) b.1 in
        let made = read_at moment read in
        both_true (is_empty made.list) (is_plain made && (is_filter (around columns kinds) made.filter && is_count_result results)) (empty_map (expr_at moment) read.list ∙ a.0)
        (both_true (is_plain made) (is_filter (around columns kinds) made.filter && is_count_result results) (plain_kept read b.0)
        (both_true (is_filter (around columns kinds) made.filter) (is_count_result results) (filter_kept read.filter c.0) c.1))

    rows_kept : (table : TableDef) (read : CheckedRead) (results : List ColumnDesc) → is_rows (around columns kinds) table read results ≡ true
        → is_rows (around columns kinds) table (read_at moment read) results ≡ true
    rows_kept table read results is =
        let a = and_true (is_list (around columns kinds) read.list) (are_results read.list results && (is_filter (around columns kinds) read.filter && (is_order table read.order && is_limit (around columns kinds) read.limit))) is in
        let b = and_true (are_results read.list results) (is_filter (around columns kinds) read.filter && (is_order table read.order && is_limit (around columns kinds) read.limit)) a.1 in
        let c = and_true (is_filter (around columns kinds) read.filter) (is_order table read.order && is_limit (around columns kinds) read.limit) b.1 in
        let d = and_true (is_order table read.order) (is_limit (around columns kinds) read.limit) c.1 in
        let made = read_at moment read in
        both_true (is_list (around columns kinds) made.list) (are_results made.list results && (is_filter (around columns kinds) made.filter && (is_order table made.order && is_limit (around columns kinds) made.limit))) (list_kept read.list a.0)
        (both_true (are_results made.list results) (is_filter (around columns kinds) made.filter && (is_order table made.order && is_limit (around columns kinds) made.limit)) (results_stay moment read.list results ∙ b.0)
        (both_true (is_filter (around columns kinds) made.filter) (is_order table made.order && is_limit (around columns kinds) made.limit) (filter_kept read.filter c.0)
        (both_true (is_order table made.order) (is_limit (around columns kinds) made.limit) d.0 (limits_kept read.limit d.1))))

    bare_kept : (read : CheckedRead) (results : List ColumnDesc) → is_bare (around columns kinds) read results ≡ true → is_bare (around columns kinds) (read_at moment read) results ≡ true
    bare_kept read results is =
        let a = and_true (is_list (around columns kinds) read.list) (are_results read.list results && (is_none read.filter && is_plain read)) is in
        let b = and_true (are_results read.list results) (is_none read.filter && is_plain read) a.1 in
        let c = and_true (is_none read.filter) (is_plain read) b.1 in
        let made = read_at moment read in
        both_true (is_list (around columns kinds) made.list) (are_results made.list results && (is_none made.filter && is_plain made)) (list_kept read.list a.0)
        (both_true (are_results made.list results) (is_none made.filter && is_plain made) (results_stay moment read.list results ∙ b.0)
        (both_true (is_none made.filter) (is_plain made) (none_map (expr_at moment) read.filter ∙ c.0) (plain_kept read c.1)))

    value_kept : (column : Option ColumnDef) (e : TypedExpr) → is_value_of (around columns kinds) column e ≡ true → is_value_of (around columns kinds) column (expr_at moment e) ≡ true
    value_kept None e is = is
    value_kept (Some column) e is = stood_kept columns kinds moment within (Like column.kind) e is

    sets_kept : (table : TableDef) (sets : List TypedSet) → list_all (is_set (around columns kinds) table) sets ≡ true
        → list_all (is_set (around columns kinds) table) (map (set_at moment) sets) ≡ true
    sets_kept table [] is = refl
    sets_kept table (set ∷ sets) is =
        let each = and_true (is_set (around columns kinds) table set) (list_all (is_set (around columns kinds) table) sets) is in
        let both = and_true (not (set.column == table.key)) (is_value_of (around columns kinds) (slice_get table.columns set.column) set.expr) each.0 in
        both_true (is_set (around columns kinds) table (set_at moment set)) (list_all (is_set (around columns kinds) table) (map (set_at moment) sets))
        (both_true (not (set.column == table.key)) (is_value_of (around columns kinds) (slice_get table.columns set.column) (expr_at moment set.expr))
        both.0 (value_kept (slice_get table.columns set.column) set.expr both.1))
        (sets_kept table sets each.1)

  read_kept : (table : TableDef) (count : Truth) (read : CheckedRead) (results : List ColumnDesc) → is_read_of kinds table count read results ≡ true
      → is_read_of kinds table count (read_at moment read) results ≡ true
  read_kept table true read results is = count_kept table.columns read results is
  read_kept table false read results is = rows_kept table.columns table read results is

  read_from_kept : (table : Option TableDef) (read : CheckedRead) (results : List ColumnDesc) → is_read_from kinds table read results ≡ true
      → is_read_from kinds table (read_at moment read) results ≡ true
  read_from_kept None read results is = is
  read_from_kept (Some table) read results is = read_kept table read.count read results is

  read_at_kept : (tables : List TableDef) (at : Option ℕ) (read : CheckedRead) (results : List ColumnDesc) → is_read_at tables kinds at read results ≡ true
      → is_read_at tables kinds at (read_at moment read) results ≡ true
  read_at_kept tables None read results is =
      let both = and_true (not read.count) (is_bare (around [] kinds) read results) is in
      both_true (not read.count) (is_bare (around [] kinds) (read_at moment read) results) both.0 (bare_kept [] read results both.1)
  read_at_kept tables (Some number) read results is = read_from_kept (slice_get tables number) read results is

  now_kept : (column : ColumnDef) → IsTimely column → is_now column.fill ≡ true → stands (around [] kinds) (Like column.kind) (literal Moment (value.Moment moment)) ≡ true
  now_kept column timely is =
      both_true (takes_kind (Like column.kind) Moment) (is_sound (around [] kinds) (literal Moment (value.Moment moment))) (ap (λ k. takes_kind (Like k) Moment) (timely is)) (literal_sound (around [] kinds) Moment (value.Moment moment) within)

  cell_kept : (column : ColumnDef) (c : TypedCell) → IsTimely column → is_cell kinds column c ≡ true → is_cell kinds column (cell_at moment c) ≡ true
  cell_kept column cell.Serial timely is = is
  cell_kept column cell.Now timely is = now_kept column timely is
  cell_kept column (cell.Given e) timely is = stood_kept [] kinds moment within (Like column.kind) e is

  cells_kept : (columns : List ColumnDef) (cells : List TypedCell) → AllByRecursion IsTimely columns → are_cells kinds columns cells ≡ true → are_cells kinds columns (map (cell_at moment) cells) ≡ true
  cells_kept [] cells timely is = empty_map (cell_at moment) cells ∙ is
  cells_kept (column ∷ columns) [] timely is = is
  cells_kept (column ∷ columns) (c ∷ cells) timely is =
      let both = and_true (is_cell kinds column c) (are_cells kinds columns cells) is in
      both_true (is_cell kinds column (cell_at moment c)) (are_cells kinds columns (map (cell_at moment) cells)) (cell_kept column c timely.0 both.0) (cells_kept columns cells timely.1 both.1)

  all_rows_kept : (columns : List ColumnDef) (rows : List (List TypedCell)) → AllByRecursion IsTimely columns → list_all (are_cells kinds columns) rows ≡ true
      → list_all (are_cells kinds columns) (map (map (cell_at moment)) rows) ≡ true
  all_rows_kept columns [] timely is = refl
  all_rows_kept columns (row ∷ rows) timely is =
      let both = and_true (are_cells kinds columns row) (list_all (are_cells kinds columns) rows) is in
      both_true (are_cells kinds columns (map (cell_at moment) row)) (list_all (are_cells kinds columns) (map (map (cell_at moment)) rows))
      (cells_kept columns row timely both.0) (all_rows_kept columns rows timely both.1)

  insert_kept : (table : TableDef) (i : CheckedInsert) → AllByRecursion IsTimely table.columns → is_insert kinds table i ≡ true → is_insert kinds table (record i { rows = map (map (cell_at moment)) i.rows }) ≡ true
  insert_kept table i timely is =
      let a = and_true (not (is_empty i.rows)) (nat_lt (length i.rows) 4294967296 && list_all (are_cells kinds table.columns) i.rows) is in
      let b = and_true (nat_lt (length i.rows) 4294967296) (list_all (are_cells kinds table.columns) i.rows) a.1 in
      let made = map (map (cell_at moment)) i.rows in
      both_true (not (is_empty made)) (nat_lt (length made) 4294967296 && list_all (are_cells kinds table.columns) made) (ap not (empty_map (map (cell_at moment)) i.rows) ∙ a.0)
      (both_true (nat_lt (length made) 4294967296) (list_all (are_cells kinds table.columns) made)
      (ap (λ (n : ℕ). nat_lt n 4294967296) (length-map i.rows (map (cell_at moment))) ∙ b.0) (all_rows_kept table.columns i.rows timely b.1))

  change_kept : (table : TableDef) (c : CheckedChange) → is_change kinds table c ≡ true
      → is_change kinds table (record c { sets = map (set_at moment) c.sets; filter = option_map (expr_at moment) c.filter }) ≡ true
  change_kept table c is =
      let names = around table.columns kinds in
      let after = around table.columns kinds in
      let a = and_true (not (is_empty c.sets)) (are_apart c.sets && (list_all (is_set names table) c.sets && is_filter names c.filter)) is in
      let b = and_true (are_apart c.sets) (list_all (is_set names table) c.sets && is_filter names c.filter) a.1 in
      let d = and_true (list_all (is_set names table) c.sets) (is_filter names c.filter) b.1 in
      let made = map (set_at moment) c.sets in
      let filter = option_map (expr_at moment) c.filter in
      both_true (not (is_empty made)) (are_apart made && (list_all (is_set after table) made && is_filter after filter)) (ap not (empty_map (set_at moment) c.sets) ∙ a.0)
      (both_true (are_apart made) (list_all (is_set after table) made && is_filter after filter) (apart_stay moment c.sets ∙ b.0)
      (both_true (list_all (is_set after table) made) (is_filter after filter) (sets_kept table.columns table c.sets d.0) (filter_kept table.columns c.filter d.1)))

  insert_of_kept : (table : Option TableDef) (i : CheckedInsert) → IfSome table IsTimelyTable → of_table (is_insert kinds) table i ≡ true
      → of_table (is_insert kinds) table (record i { rows = map (map (cell_at moment)) i.rows }) ≡ true
  insert_of_kept None i timely is = is
  insert_of_kept (Some table) i timely is = insert_kept table i timely is

  change_of_kept : (table : Option TableDef) (c : CheckedChange) → of_table (is_change kinds) table c ≡ true
      → of_table (is_change kinds) table (record c { sets = map (set_at moment) c.sets; filter = option_map (expr_at moment) c.filter }) ≡ true
  change_of_kept None c is = is
  change_of_kept (Some table) c is = change_kept table c is

  remove_of_kept : (table : Option TableDef) (r : CheckedRemove) → of_table (is_remove kinds) table r ≡ true
      → of_table (is_remove kinds) table (record r { filter = option_map (expr_at moment) r.filter }) ≡ true
  remove_of_kept None r is = is
  remove_of_kept (Some table) r is = filter_kept table.columns r.filter is

  pub body_kept : (tables : List TableDef) (b : CheckedBody) (results : List ColumnDesc) → ((i : ℕ) → IfSome (slice_get tables i) IsTimelyTable) → is_body tables kinds b results ≡ true → is_body tables kinds (body_at moment b) results ≡ true
  body_kept tables (body.Read read) results timely is = read_at_kept tables read.table read results is
  body_kept tables (body.Insert i) results timely is =
      let both = and_true (is_empty results) (of_table (is_insert kinds) (slice_get tables i.table) i) is in
      both_true (is_empty results) (of_table (is_insert kinds) (slice_get tables i.table) (record i { rows = map (map (cell_at moment)) i.rows }))
      both.0 (insert_of_kept (slice_get tables i.table) i (timely i.table) both.1)
  body_kept tables (body.Change c) results timely is =
      let both = and_true (is_empty results) (of_table (is_change kinds) (slice_get tables c.table) c) is in
      both_true (is_empty results) (of_table (is_change kinds) (slice_get tables c.table) (record c { sets = map (set_at moment) c.sets; filter = option_map (expr_at moment) c.filter }))
      both.0 (change_of_kept (slice_get tables c.table) c both.1)
  body_kept tables (body.Remove r) results timely is =
      let both = and_true (is_empty results) (of_table (is_remove kinds) (slice_get tables r.table) r) is in
      both_true (is_empty results) (of_table (is_remove kinds) (slice_get tables r.table) (record r { filter = option_map (expr_at moment) r.filter }))
      both.0 (remove_of_kept (slice_get tables r.table) r both.1)
