-- A statement that is of the tables stays so with values in place of its parameters.
use Rattle.std.proofs.Common.{◌≡◌, ℕ, zero, suc, List, [], ◌∷◌, length, map, ap, sym, ◌∙◌, refl}
use Rattle.std.proofs.lemmas.List.{length-map}
use Rattle.std.specs.Prelude.{◌&&◌, ◌||◌, ◌==◌, not, nat_lt, Bool as Truth, true, false, Option, Some, None, slice_get}
use Rattle.std.specs.List.{list_all, list_any}
use Rattle.std.specs.Option.{option_map}
use Rattle.pg_values.specs.declared.col_type.ColType.{ColType}
use Rattle.pg_values.specs.declared.col_type.ColType.TheVariants.{Bool}
use Rattle.pg_values.specs.declared.value.Value.{Value}
use Rattle.schema.specs.declared.catalogue.ColumnDef.{ColumnDef}
use Rattle.schema.specs.declared.catalogue.TableDef.{TableDef}
use Rattle.typed_sql.specs.declared.asks.Takes.TheVariants.{Whole, Like}
use Rattle.typed_sql.specs.declared.typed.TypedExpr.{TypedExpr}
use Rattle.typed_sql.specs.declared.typed.TypedForm.{TypedForm, out-TypedForm, roll-TypedForm, roll-out-TypedForm}
use Rattle.typed_sql.specs.declared.typed.TypedForm.TheOpen.{TypedForm-F}
use Rattle.typed_sql.specs.declared.typed.TypedProductPart.{TypedProductPart}
use Rattle.typed_sql.specs.declared.typed.TypedSumPart.{TypedSumPart}
use Rattle.typed_sql.specs.declared.typed.TypedForm.TheVariants as form
use Rattle.typed_sql.specs.Places.{same_kind}
use Rattle.catalogue.specs.declared.checked.Checked.{Checked}
use Rattle.catalogue.specs.declared.checked.CheckedBody.{CheckedBody}
use Rattle.catalogue.specs.declared.checked.CheckedBody.TheVariants as body
use Rattle.catalogue.specs.declared.checked.CheckedRead.{CheckedRead}
use Rattle.catalogue.specs.declared.checked.CheckedInsert.{CheckedInsert}
use Rattle.catalogue.specs.declared.checked.CheckedChange.{CheckedChange}
use Rattle.catalogue.specs.declared.checked.CheckedRemove.{CheckedRemove}
use Rattle.catalogue.specs.declared.checked.ColumnDesc.{ColumnDesc}
use Rattle.catalogue.specs.declared.checked.TypedCell.{TypedCell}
use Rattle.catalogue.specs.declared.checked.TypedCell.TheVariants as cell
use Rattle.catalogue.specs.declared.checked.TypedSet.{TypedSet}
use Rattle.checked_sql.specs.Sound.{are_fit, is_sound, stands}
use Rattle.checked_sql.specs.OfCatalogue.{are_apart, are_cells, are_results, around, is_bare, is_body, is_cell, is_change, is_count, is_count_result, is_empty, is_filter, is_insert, is_limit, is_limit_form, is_limit_layer, is_list, is_none, is_of, is_order, is_plain, is_read_at, is_read_from, is_read_of, is_remove, is_result, is_rows, is_set, is_value_of, is_written_form, is_name, of_table}
use Rattle.checked_sql.specs.Binding.{bound, bound_body, bound_cell, bound_form, bound_read, bound_set, value_or, value_put}
use Rattle.checked_sql.proofs.Bound.{bound_by_form, bound_literal, bound_minus, bound_param}
use Rattle.checked_sql.proofs.Limits.{limit_literal, limit_minus, limit_param}
use Rattle.checked_sql.proofs.Kept.{and_true, both_true, kind_stays, sound_kept, stood_kept}

-- ---- what does not depend on the types of the parameters

empty_map : {A B : Type 0} (f : A → B) (xs : List A) → is_empty (map f xs) ≡ is_empty xs
empty_map f [] = refl
empty_map f (x ∷ xs) = refl

none_map : {A B : Type 0} (f : A → B) (o : Option A) → is_none (option_map f o) ≡ is_none o
none_map f None = refl
none_map f (Some x) = refl

module _ (values : List Value) where
  results_stay : (es : List TypedExpr) (columns : List ColumnDesc) → are_results (map (bound values) es) columns ≡ are_results es columns
  results_stay [] columns = refl
  results_stay (e ∷ es) [] = refl
  results_stay (e ∷ es) (column ∷ columns) =
      ap (λ (k : ColType). (same_kind column.kind k && is_name column.name) && are_results (map (bound values) es) columns) (kind_stays values e)
      ∙ ap (λ (b : Truth). is_result e column && b) (results_stay es columns)

  columns_stay : (sets : List TypedSet) (column : ℕ) → list_any (λ s. s.column == column) (map (bound_set values) sets) ≡ list_any (λ s. s.column == column) sets
  columns_stay [] column = refl
  columns_stay (set ∷ sets) column = ap (λ (b : Truth). (set.column == column) || b) (columns_stay sets column)

  apart_stay : (sets : List TypedSet) → are_apart (map (bound_set values) sets) ≡ are_apart sets
  apart_stay [] = refl
  apart_stay (set ∷ sets) =
      ap (λ (b : Truth). not b && are_apart (map (bound_set values) sets)) (columns_stay sets set.column)
      ∙ ap (λ (b : Truth). not (list_any (λ s. s.column == set.column) sets) && b) (apart_stay sets)

  put_is_limit : (n : ℕ) (found : Option Value) (g : TypedForm) → g ≡ value_or n found → is_limit_form g ≡ true
  put_is_limit n None g is = limit_param g n is
  put_is_limit n (Some v) g is = limit_literal g v is

  param_is_limit : (n : ℕ) (g : TypedForm) → g ≡ value_put values n → is_limit_form g ≡ true
  param_is_limit zero g is = limit_param g zero is
  param_is_limit (suc at) g is = put_is_limit (suc at) (slice_get values at) g is

  written_kept : (f : TypedForm) → is_written_form f ≡ true → is_written_form (bound_form values f) ≡ true
  written_kept (form.Literal v) is = ap is_written_form (bound_literal values (form.Literal v) v refl) ∙ is
  written_kept f is = absurd (let g : false ≡ true = is in cc)

  layer_kept : (d : TypedForm-F TypedForm TypedExpr TypedProductPart TypedSumPart) → is_limit_layer d ≡ true → is_limit_form (bound_form values (roll-TypedForm d)) ≡ true
  layer_kept (TypedForm-F.Param n) is = param_is_limit n (bound_form values (roll-TypedForm (TypedForm-F.Param n))) (bound_param values (roll-TypedForm (TypedForm-F.Param n)) n (form.rolls-Param n))
  layer_kept (TypedForm-F.Literal v) is = limit_literal (bound_form values (roll-TypedForm (TypedForm-F.Literal v))) v (bound_literal values (roll-TypedForm (TypedForm-F.Literal v)) v (form.rolls-Literal v))
  layer_kept (TypedForm-F.Minus e) is =
      limit_minus (bound_form values (roll-TypedForm (TypedForm-F.Minus e))) (bound values e) (bound_minus values (roll-TypedForm (TypedForm-F.Minus e)) e (form.rolls-Minus e))
      ∙ (ap (λ (x : TypedExpr). is_written_form x.form) (bound_by_form values e) ∙ written_kept e.form is)
  layer_kept d is = absurd (let g : false ≡ true = is in cc)

  limit_kept : (f : TypedForm) → is_limit_form f ≡ true → is_limit_form (bound_form values f) ≡ true
  limit_kept f is = ap (λ (g : TypedForm). is_limit_form (bound_form values g)) (sym (roll-out-TypedForm f)) ∙ layer_kept (out-TypedForm f) is

-- ---- what does

module _ (kinds : List ColType) (values : List Value) (fit : are_fit kinds values ≡ true) where
  module _ (columns : List ColumnDef) where
    filter_kept : (filter : Option TypedExpr) → is_filter (around columns kinds) filter ≡ true → is_filter (around columns []) (option_map (bound values) filter) ≡ true
    filter_kept None is = refl
    filter_kept (Some e) is = stood_kept columns kinds values fit (Like Bool) e is

    limits_kept : (limit : Option TypedExpr) → is_limit (around columns kinds) limit ≡ true → is_limit (around columns []) (option_map (bound values) limit) ≡ true
    limits_kept None is = refl
    limits_kept (Some e) is =
        let both = and_true (is_limit_form e.form) (stands (around columns kinds) Whole e) is in
        both_true (is_limit_form (bound values e).form) (stands (around columns []) Whole (bound values e))
        (ap (λ (x : TypedExpr). is_limit_form x.form) (bound_by_form values e) ∙ limit_kept values e.form both.0)
        (stood_kept columns kinds values fit Whole e both.1)

    sounds_kept : (es : List TypedExpr) → list_all (is_sound (around columns kinds)) es ≡ true → list_all (is_sound (around columns [])) (map (bound values) es) ≡ true
    sounds_kept [] is = refl
    sounds_kept (e ∷ es) is =
        let both = and_true (is_sound (around columns kinds) e) (list_all (is_sound (around columns kinds)) es) is in
        both_true (is_sound (around columns []) (bound values e)) (list_all (is_sound (around columns [])) (map (bound values) es))
        (sound_kept columns kinds values fit e both.0) (sounds_kept es both.1)

    list_kept : (es : List TypedExpr) → is_list (around columns kinds) es ≡ true → is_list (around columns []) (map (bound values) es) ≡ true
    list_kept es is =
        let some = and_true (not (is_empty es)) (nat_lt (length es) 1665 && list_all (is_sound (around columns kinds)) es) is in
        let few = and_true (nat_lt (length es) 1665) (list_all (is_sound (around columns kinds)) es) some.1 in
        both_true (not (is_empty (map (bound values) es))) (nat_lt (length (map (bound values) es)) 1665 && list_all (is_sound (around columns [])) (map (bound values) es))
        (ap not (empty_map (bound values) es) ∙ some.0)
        (both_true (nat_lt (length (map (bound values) es)) 1665) (list_all (is_sound (around columns [])) (map (bound values) es))
        (ap (λ (n : ℕ). nat_lt n 1665) (length-map es (bound values)) ∙ few.0) (sounds_kept es few.1))

    -- no order, limit and FOR UPDATE
    plain_kept : (read : CheckedRead) → is_plain read ≡ true → is_plain (bound_read values read) ≡ true
    plain_kept read is = ap (λ (b : Truth). is_empty read.order && (b && not read.for_update)) (none_map (bound values) read.limit) ∙ is

    count_kept : (read : CheckedRead) (results : List ColumnDesc) → is_count (around columns kinds) read results ≡ true → is_count (around columns []) (bound_read values read) results ≡ true
    count_kept read results is =
        let a = and_true (is_empty read.list) (is_plain read && (is_filter (around columns kinds) read.filter && is_count_result results)) is in
        let b = and_true (is_plain read) (is_filter (around columns kinds) read.filter && is_count_result results) a.1 in
        let c = and_true (is_filter (around columns kinds) read.filter) (is_count_result results) b.1 in
        let made = bound_read values read in
        both_true (is_empty made.list) (is_plain made && (is_filter (around columns []) made.filter && is_count_result results)) (empty_map (bound values) read.list ∙ a.0)
        (both_true (is_plain made) (is_filter (around columns []) made.filter && is_count_result results) (plain_kept read b.0)
        (both_true (is_filter (around columns []) made.filter) (is_count_result results) (filter_kept read.filter c.0) c.1))

    rows_kept : (table : TableDef) (read : CheckedRead) (results : List ColumnDesc) → is_rows (around columns kinds) table read results ≡ true
        → is_rows (around columns []) table (bound_read values read) results ≡ true
    rows_kept table read results is =
        let a = and_true (is_list (around columns kinds) read.list) (are_results read.list results && (is_filter (around columns kinds) read.filter && (is_order table read.order && is_limit (around columns kinds) read.limit))) is in
        let b = and_true (are_results read.list results) (is_filter (around columns kinds) read.filter && (is_order table read.order && is_limit (around columns kinds) read.limit)) a.1 in
        let c = and_true (is_filter (around columns kinds) read.filter) (is_order table read.order && is_limit (around columns kinds) read.limit) b.1 in
        let d = and_true (is_order table read.order) (is_limit (around columns kinds) read.limit) c.1 in
        let made = bound_read values read in
        both_true (is_list (around columns []) made.list) (are_results made.list results && (is_filter (around columns []) made.filter && (is_order table made.order && is_limit (around columns []) made.limit))) (list_kept read.list a.0)
        (both_true (are_results made.list results) (is_filter (around columns []) made.filter && (is_order table made.order && is_limit (around columns []) made.limit)) (results_stay values read.list results ∙ b.0)
        (both_true (is_filter (around columns []) made.filter) (is_order table made.order && is_limit (around columns []) made.limit) (filter_kept read.filter c.0)
        (both_true (is_order table made.order) (is_limit (around columns []) made.limit) d.0 (limits_kept read.limit d.1))))

    bare_kept : (read : CheckedRead) (results : List ColumnDesc) → is_bare (around columns kinds) read results ≡ true → is_bare (around columns []) (bound_read values read) results ≡ true
    bare_kept read results is =
        let a = and_true (is_list (around columns kinds) read.list) (are_results read.list results && (is_none read.filter && is_plain read)) is in
        let b = and_true (are_results read.list results) (is_none read.filter && is_plain read) a.1 in
        let c = and_true (is_none read.filter) (is_plain read) b.1 in
        let made = bound_read values read in
        both_true (is_list (around columns []) made.list) (are_results made.list results && (is_none made.filter && is_plain made)) (list_kept read.list a.0)
        (both_true (are_results made.list results) (is_none made.filter && is_plain made) (results_stay values read.list results ∙ b.0)
        (both_true (is_none made.filter) (is_plain made) (none_map (bound values) read.filter ∙ c.0) (plain_kept read c.1)))

    value_kept : (column : Option ColumnDef) (e : TypedExpr) → is_value_of (around columns kinds) column e ≡ true → is_value_of (around columns []) column (bound values e) ≡ true
    value_kept None e is = is
    value_kept (Some column) e is = stood_kept columns kinds values fit (Like column.kind) e is

    sets_kept : (table : TableDef) (sets : List TypedSet) → list_all (is_set (around columns kinds) table) sets ≡ true
        → list_all (is_set (around columns []) table) (map (bound_set values) sets) ≡ true
    sets_kept table [] is = refl
    sets_kept table (set ∷ sets) is =
        let each = and_true (is_set (around columns kinds) table set) (list_all (is_set (around columns kinds) table) sets) is in
        let both = and_true (not (set.column == table.key)) (is_value_of (around columns kinds) (slice_get table.columns set.column) set.expr) each.0 in
        both_true (is_set (around columns []) table (bound_set values set)) (list_all (is_set (around columns []) table) (map (bound_set values) sets))
        (both_true (not (set.column == table.key)) (is_value_of (around columns []) (slice_get table.columns set.column) (bound values set.expr))
        both.0 (value_kept (slice_get table.columns set.column) set.expr both.1))
        (sets_kept table sets each.1)

  read_kept : (table : TableDef) (count : Truth) (read : CheckedRead) (results : List ColumnDesc) → is_read_of kinds table count read results ≡ true
      → is_read_of [] table count (bound_read values read) results ≡ true
  read_kept table true read results is = count_kept table.columns read results is
  read_kept table false read results is = rows_kept table.columns table read results is

  read_from_kept : (table : Option TableDef) (read : CheckedRead) (results : List ColumnDesc) → is_read_from kinds table read results ≡ true
      → is_read_from [] table (bound_read values read) results ≡ true
  read_from_kept None read results is = is
  read_from_kept (Some table) read results is = read_kept table read.count read results is

  read_at_kept : (tables : List TableDef) (at : Option ℕ) (read : CheckedRead) (results : List ColumnDesc) → is_read_at tables kinds at read results ≡ true
      → is_read_at tables [] at (bound_read values read) results ≡ true
  read_at_kept tables None read results is =
      let both = and_true (not read.count) (is_bare (around [] kinds) read results) is in
      both_true (not read.count) (is_bare (around [] []) (bound_read values read) results) both.0 (bare_kept [] read results both.1)
  read_at_kept tables (Some number) read results is = read_from_kept (slice_get tables number) read results is

  cell_kept : (column : ColumnDef) (c : TypedCell) → is_cell kinds column c ≡ true → is_cell [] column (bound_cell values c) ≡ true
  cell_kept column cell.Serial is = is
  cell_kept column cell.Now is = is
  cell_kept column (cell.Given e) is = stood_kept [] kinds values fit (Like column.kind) e is

  cells_kept : (columns : List ColumnDef) (cells : List TypedCell) → are_cells kinds columns cells ≡ true → are_cells [] columns (map (bound_cell values) cells) ≡ true
  cells_kept [] cells is = empty_map (bound_cell values) cells ∙ is
  cells_kept (column ∷ columns) [] is = is
  cells_kept (column ∷ columns) (c ∷ cells) is =
      let both = and_true (is_cell kinds column c) (are_cells kinds columns cells) is in
      both_true (is_cell [] column (bound_cell values c)) (are_cells [] columns (map (bound_cell values) cells)) (cell_kept column c both.0) (cells_kept columns cells both.1)

  all_rows_kept : (columns : List ColumnDef) (rows : List (List TypedCell)) → list_all (are_cells kinds columns) rows ≡ true
      → list_all (are_cells [] columns) (map (map (bound_cell values)) rows) ≡ true
  all_rows_kept columns [] is = refl
  all_rows_kept columns (row ∷ rows) is =
      let both = and_true (are_cells kinds columns row) (list_all (are_cells kinds columns) rows) is in
      both_true (are_cells [] columns (map (bound_cell values) row)) (list_all (are_cells [] columns) (map (map (bound_cell values)) rows))
      (cells_kept columns row both.0) (all_rows_kept columns rows both.1)

  insert_kept : (table : TableDef) (i : CheckedInsert) → is_insert kinds table i ≡ true → is_insert [] table (record i { rows = map (map (bound_cell values)) i.rows }) ≡ true
  insert_kept table i is =
      let a = and_true (not (is_empty i.rows)) (nat_lt (length i.rows) 4294967296 && list_all (are_cells kinds table.columns) i.rows) is in
      let b = and_true (nat_lt (length i.rows) 4294967296) (list_all (are_cells kinds table.columns) i.rows) a.1 in
      let made = map (map (bound_cell values)) i.rows in
      both_true (not (is_empty made)) (nat_lt (length made) 4294967296 && list_all (are_cells [] table.columns) made) (ap not (empty_map (map (bound_cell values)) i.rows) ∙ a.0)
      (both_true (nat_lt (length made) 4294967296) (list_all (are_cells [] table.columns) made)
      (ap (λ (n : ℕ). nat_lt n 4294967296) (length-map i.rows (map (bound_cell values))) ∙ b.0) (all_rows_kept table.columns i.rows b.1))

  change_kept : (table : TableDef) (c : CheckedChange) → is_change kinds table c ≡ true
      → is_change [] table (record c { sets = map (bound_set values) c.sets; filter = option_map (bound values) c.filter }) ≡ true
  change_kept table c is =
      let names = around table.columns kinds in
      let after = around table.columns [] in
      let a = and_true (not (is_empty c.sets)) (are_apart c.sets && (list_all (is_set names table) c.sets && is_filter names c.filter)) is in
      let b = and_true (are_apart c.sets) (list_all (is_set names table) c.sets && is_filter names c.filter) a.1 in
      let d = and_true (list_all (is_set names table) c.sets) (is_filter names c.filter) b.1 in
      let made = map (bound_set values) c.sets in
      let filter = option_map (bound values) c.filter in
      both_true (not (is_empty made)) (are_apart made && (list_all (is_set after table) made && is_filter after filter)) (ap not (empty_map (bound_set values) c.sets) ∙ a.0)
      (both_true (are_apart made) (list_all (is_set after table) made && is_filter after filter) (apart_stay values c.sets ∙ b.0)
      (both_true (list_all (is_set after table) made) (is_filter after filter) (sets_kept table.columns table c.sets d.0) (filter_kept table.columns c.filter d.1)))

  insert_of_kept : (table : Option TableDef) (i : CheckedInsert) → of_table (is_insert kinds) table i ≡ true
      → of_table (is_insert []) table (record i { rows = map (map (bound_cell values)) i.rows }) ≡ true
  insert_of_kept None i is = is
  insert_of_kept (Some table) i is = insert_kept table i is

  change_of_kept : (table : Option TableDef) (c : CheckedChange) → of_table (is_change kinds) table c ≡ true
      → of_table (is_change []) table (record c { sets = map (bound_set values) c.sets; filter = option_map (bound values) c.filter }) ≡ true
  change_of_kept None c is = is
  change_of_kept (Some table) c is = change_kept table c is

  remove_of_kept : (table : Option TableDef) (r : CheckedRemove) → of_table (is_remove kinds) table r ≡ true
      → of_table (is_remove []) table (record r { filter = option_map (bound values) r.filter }) ≡ true
  remove_of_kept None r is = is
  remove_of_kept (Some table) r is = filter_kept table.columns r.filter is

  body_kept : (tables : List TableDef) (b : CheckedBody) (results : List ColumnDesc) → is_body tables kinds b results ≡ true → is_body tables [] (bound_body values b) results ≡ true
  body_kept tables (body.Read read) results is = read_at_kept tables read.table read results is
  body_kept tables (body.Insert i) results is =
      let both = and_true (is_empty results) (of_table (is_insert kinds) (slice_get tables i.table) i) is in
      both_true (is_empty results) (of_table (is_insert []) (slice_get tables i.table) (record i { rows = map (map (bound_cell values)) i.rows }))
      both.0 (insert_of_kept (slice_get tables i.table) i both.1)
  body_kept tables (body.Change c) results is =
      let both = and_true (is_empty results) (of_table (is_change kinds) (slice_get tables c.table) c) is in
      both_true (is_empty results) (of_table (is_change []) (slice_get tables c.table) (record c { sets = map (bound_set values) c.sets; filter = option_map (bound values) c.filter }))
      both.0 (change_of_kept (slice_get tables c.table) c both.1)
  body_kept tables (body.Remove r) results is =
      let both = and_true (is_empty results) (of_table (is_remove kinds) (slice_get tables r.table) r) is in
      both_true (is_empty results) (of_table (is_remove []) (slice_get tables r.table) (record r { filter = option_map (bound values) r.filter }))
      both.0 (remove_of_kept (slice_get tables r.table) r both.1)

-- with values that fit its parameters a statement is of the tables still
pub made_is_of : (tables : List TableDef) (checked : Checked) (values : List Value) (body : CheckedBody) (columns : List ColumnDesc) (kinds : List ColType)
    → body ≡ bound_body values checked.body → columns ≡ checked.columns → kinds ≡ []
    → is_of tables checked ≡ true → are_fit checked.kinds values ≡ true → is_body tables kinds body columns ≡ true
made_is_of tables checked values body columns kinds put same none is fit =
    ap (λ (b : CheckedBody). is_body tables kinds b columns) put
    ∙ (ap (λ (cs : List ColumnDesc). is_body tables kinds (bound_body values checked.body) cs) same
    ∙ (ap (λ (ks : List ColType). is_body tables ks (bound_body values checked.body) checked.columns) none
    ∙ body_kept checked.kinds values fit tables checked.body checked.columns is))
