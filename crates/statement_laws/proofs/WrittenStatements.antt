-- The statement that a checked statement is spelled as has tokens that may be written, and whole numbers of int8.
use Rattle.std.proofs.Common.{◌≡◌, ◌∙◌, ℕ, zero, suc, ◌<◌, ◌^◌, List, [], ◌∷◌, ◌++◌, ◌-◌, length, map, refl, ap, sym, subst, arith}
use Rattle.std.specs.Prelude.{◌&&◌, ◌==◌, not, nat_lt, Bool as Truth, true, false, All, Option, Some, None, option_map, slice_get, bytes_eq, unwrap_or, if◌then◌else◌}
use Rattle.std.specs.List.{list_all}
use Rattle.std.proofs.lemmas.Bool.{ltb-true}
use Rattle.std.proofs.lemmas.Option.{none-some}
use Rattle.pg_values.specs.declared.col_type.ColType.{ColType}
use Rattle.pg_values.specs.declared.col_type.ColType.TheVariants as kind
use Rattle.schema.specs.declared.catalogue.ColumnDef.{ColumnDef}
use Rattle.schema.specs.declared.catalogue.TableDef.{TableDef}
use Rattle.schema.specs.Allowed.{AreAllowed, AreColumns}
use Rattle.schema.specs.Allowed as allowed
use Rattle.sql_tree.specs.declared.expr.Expr.{Expr}
use Rattle.sql_tree.specs.declared.statement.OrderItem.{OrderItem}
use Rattle.sql_tree.specs.declared.statement.Statement.TheVariants as statement
use Rattle.sql_profile.specs.Lexemes.{HasNoZero}
use Rattle.sql_profile.proofs.Each.{Each}
use Rattle.sql_print.specs.Spelling.{word, name}
use Rattle.sql_print.specs.Printed.{optional, statement_text, tokens_of}
use Rattle.sql_reader.specs.Text.{IsTextOf}
use Rattle.sql_profile.specs.Fits.{Fits, IsBackend}
use Rattle.sql_profile.specs.Numbers.{expressions, greatest_number}
use Rattle.sql_tree.specs.declared.statement.Statement.{Statement}
use Rattle.sql_tokens.specs.declared.word.Word.TheVariants as words
use Rattle.sql_profile.specs.Writable.{AreWritable}
use Rattle.sql_profile.proofs.Stopped.{fit}
use Rattle.typed_sql.specs.declared.asks.Takes.TheVariants.{Like, Whole as WholeNumber}
use Rattle.typed_sql.specs.declared.typed.TypedExpr.{TypedExpr}
use Rattle.typed_sql.specs.Places.{are_alike, is_whole, same_kind, takes as takes_kind}
use Rattle.catalogue.specs.declared.checked.Checked.{Checked}
use Rattle.catalogue.specs.declared.checked.CheckedBody.{CheckedBody}
use Rattle.catalogue.specs.declared.checked.CheckedBody.TheVariants as body
use Rattle.catalogue.specs.declared.checked.CheckedChange.{CheckedChange}
use Rattle.catalogue.specs.declared.checked.CheckedInsert.{CheckedInsert}
use Rattle.catalogue.specs.declared.checked.CheckedRead.{CheckedRead}
use Rattle.catalogue.specs.declared.checked.CheckedRemove.{CheckedRemove}
use Rattle.catalogue.specs.declared.checked.ColumnDesc.{ColumnDesc}
use Rattle.catalogue.specs.declared.checked.OrderKey.{OrderKey}
use Rattle.catalogue.specs.declared.checked.TypedCell.{TypedCell}
use Rattle.catalogue.specs.declared.checked.TypedCell.TheVariants as cell
use Rattle.catalogue.specs.declared.checked.TypedSet.{TypedSet}
use Rattle.catalogue.specs.Naming.{own_name}
use Rattle.checked_sql.specs.Sound.{Names, has_no_zero, is_sound, stands}
use Rattle.checked_sql.specs.OfCatalogue.{are_apart, are_cells, are_results, around, is_bare, is_body, is_cell, is_change, is_count_result, is_empty, is_filter, is_insert, is_key, is_limit, is_limit_form, is_list, is_name, is_none, is_of, is_order, is_plain, is_read_at, is_read_from, is_read_of, is_remove, is_result, is_set, is_value_of, of_table}
use Rattle.checked_print.specs.Spelled.{column_name, spelled, spelled_whole}
use Rattle.checked_print.specs.Statements.{column_names, columns_of, name_of, spelled_body, spelled_cell, spelled_items, spelled_key, spelled_list, spelled_read, spelled_select, spelled_set, spelled_statement}
use Rattle.checked_print.specs.Ranges.{are_held, is_held_body, is_held_cell, is_held_change, is_held_expr, is_held_insert, is_held_list, is_held_option, is_held_read, is_held_remove, is_held_statement}
use Rattle.statement_laws.proofs.Numbers.{both_of}
use Rattle.statement_laws.proofs.Selects.{empty_is, none_is, not_is, within}
use Rattle.statement_laws.proofs.Tables.{table_is}
use Rattle.statement_laws.proofs.Written.{Fine, fine, no_zero_bytes}
use Rattle.statement_laws.proofs.WrittenParts.{CellFine, IsNamed, ItemFine, ListFine, OptionFine, OrderFine, SetFine, Whole, delete_whole, insert_whole, select_whole, update_whole}

some_is : {A : Type 0} {a b : A} → Some a ≡ Some b → a ≡ b
some_is {A} {a} {b} is = ap (λ (o : Option A). unwrap_or o a) is

-- ---- names

same_bytes : (text : List ℕ) → allowed.HasNoZero text → HasNoZero text
same_bytes [] all = tt
same_bytes (b ∷ text) all = (all.0, same_bytes text all.1)

allowed_named : (text : List ℕ) → allowed.IsName text → IsNamed text
allowed_named text is = (is.0, same_bytes text is.2)

told_named : (text : List ℕ) → is_name text ≡ true → IsNamed text
told_named [] is = absurd (let f : false ≡ true = is in cc)
told_named (b ∷ text) is = (omega arith, no_zero_bytes (b ∷ text) (both_of (not (is_empty (b ∷ text))) (has_no_zero (b ∷ text)) is).1)

abbrev NamesOf : List ColumnDef → Type 0
NamesOf columns = (n : ℕ) (c : ColumnDef) → slice_get columns n ≡ Some c → IsNamed c.name

no_names : NamesOf []
no_names n c is = absurd (none-some c is)

column_named : (key : ℕ) (serial : Option ℕ) (before columns : List ColumnDef) → AreColumns key serial before columns → NamesOf columns
column_named key serial before [] are n c is = absurd (none-some c is)
column_named key serial before (x ∷ columns) are zero c is = subst (λ (d : ColumnDef). IsNamed d.name) (some_is is) (allowed_named x.name (are.0).named)
column_named key serial before (x ∷ columns) are (suc n) c is = column_named key serial (before ++ x ∷ []) columns are.2 n c is

all_named : (key : ℕ) (serial : Option ℕ) (before columns : List ColumnDef) → AreColumns key serial before columns → Each IsNamed (column_names columns)
all_named key serial before [] are = tt
all_named key serial before (x ∷ columns) are = (allowed_named x.name (are.0).named, all_named key serial (before ++ x ∷ []) columns are.2)

-- ---- parts of statements

module _ (columns : List ColumnDef) (kinds : List ColType) (named : NamesOf columns) where
  abbrev names : Names
  names = around columns kinds

  filter_fine : (filter : Option TypedExpr) → is_filter names filter ≡ true → is_held_option filter ≡ true → OptionFine (option_map (spelled columns) filter)
  filter_fine None is well = tt
  filter_fine (Some e) is well = ((fine columns kinds named e well (both_of (takes_kind (Like kind.Bool) e.kind) (is_sound names e) is).1).0, tt)

  limit_fine : (limit : Option TypedExpr) → is_limit names limit ≡ true → is_held_option limit ≡ true → OptionFine (option_map (spelled_whole columns) limit)
  limit_fine None is well = tt
  limit_fine (Some e) is well =
      let stood = (both_of (is_limit_form e.form) (stands names WholeNumber e) is).1 in
      ((fine columns kinds named e well (both_of (is_whole e.kind) (is_sound names e) stood).1).2, tt)

  abbrev ItemNamed : Option (List ℕ) → Type 0
  ItemNamed o = AreWritable (optional (λ called. word words.As ∷ name called ∷ []) o)

  name_fine : (b : Truth) (text : List ℕ) → is_name text ≡ true → ItemNamed (if b then None else Some text)
  name_fine true text is = tt
  name_fine false text is = (tt, (told_named text is, tt))

  items_fine : (es : List TypedExpr) (descs : List ColumnDesc) → list_all (is_sound names) es ≡ true → are_results es descs ≡ true → are_held es descs ≡ true
      → Each ItemFine (spelled_items columns es descs)
  items_fine [] descs sound is well = tt
  items_fine (e ∷ es) [] sound is well = tt
  items_fine (e ∷ es) (d ∷ descs) sound is well =
      let all = both_of (is_sound names e) (list_all (is_sound names) es) sound in
      let both = both_of (is_result e d) (are_results es descs) is in
      let held = both_of (is_held_expr e) (are_held es descs) well in (
        (
          (fine columns kinds named e held.0 all.0).0,
          name_fine (bytes_eq (own_name (spelled columns e)) d.name) d.name (both_of (same_kind d.kind e.kind) (is_name d.name) both.0).1,
        ),
        items_fine es descs all.1 both.1 held.1,
      )

  list_fine : (es : List TypedExpr) (descs : List ColumnDesc) → is_list names es ≡ true → are_results es descs ≡ true → are_held es descs ≡ true
      → Each ItemFine (spelled_items columns es descs)
  list_fine es descs is results well =
      let some = both_of (not (is_empty es)) (nat_lt (length es) 1665 && list_all (is_sound names) es) is in
      let most = both_of (nat_lt (length es) 1665) (list_all (is_sound names) es) some.1 in
      items_fine es descs most.1 results well

  set_by : (s : TypedSet) (o : Option ColumnDef) → slice_get columns s.column ≡ o → is_value_of names o s.expr ≡ true → is_held_expr s.expr ≡ true → SetFine (spelled_set columns s)
  set_by s None there is well = absurd (let no : false ≡ true = is in cc)
  set_by s (Some c) there is well = (
    subst IsNamed (sym (ap column_name there)) (named s.column c there),
    (fine columns kinds named s.expr well (both_of (are_alike c.kind s.expr.kind) (is_sound names s.expr) is).1).2,
  )

  sets_fine : (key : ℕ) (sets : List TypedSet) → list_all (λ s. not (s.column == key) && is_value_of names (slice_get columns s.column) s.expr) sets ≡ true
      → list_all (λ s. is_held_expr s.expr) sets ≡ true → Each SetFine (map (spelled_set columns) sets)
  sets_fine key [] is well = tt
  sets_fine key (s ∷ sets) is well =
      let one = not (s.column == key) && is_value_of names (slice_get columns s.column) s.expr in
      let both = both_of one (list_all (λ (r : TypedSet). not (r.column == key) && is_value_of names (slice_get columns r.column) r.expr) sets) is in
      let all = both_of (is_held_expr s.expr) (list_all (λ (r : TypedSet). is_held_expr r.expr) sets) well in
      (set_by s (slice_get columns s.column) refl (both_of (not (s.column == key)) (is_value_of names (slice_get columns s.column) s.expr) both.0).1 all.0, sets_fine key sets both.1 all.1)

  keys_fine : (table : List ℕ) → IsNamed table → (keys : List OrderKey) → list_all (λ o. nat_lt o.column (length columns)) keys ≡ true → Each OrderFine (map (spelled_key table columns) keys)
  keys_fine table is [] of = tt
  keys_fine table is (key ∷ keys) of =
      let both = both_of (nat_lt key.column (length columns)) (list_all (λ o. nat_lt o.column (length columns)) keys) of in
      let found = within columns key.column (ltb-true key.column (length columns) both.0) in
      ((is, (tt, (subst IsNamed (sym (ap column_name found.1)) (named key.column found.0 found.1), tt))), keys_fine table is keys both.1)

module _ (kinds : List ColType) where
  cell_fine : (column : ColumnDef) (c : TypedCell) → is_cell kinds column c ≡ true → is_held_cell c ≡ true → CellFine (spelled_cell c)
  cell_fine column cell.Serial is well = tt
  cell_fine column cell.Now is well = tt
  cell_fine column (cell.Given e) is well =
      (fine [] kinds no_names e well (both_of (are_alike column.kind e.kind) (is_sound (around [] kinds) e) is).1).2

  cells_fine : (columns : List ColumnDef) (cs : List TypedCell) → are_cells kinds columns cs ≡ true → list_all is_held_cell cs ≡ true → Each CellFine (map spelled_cell cs)
  cells_fine [] [] is well = tt
  cells_fine [] (c ∷ cs) is well = absurd (let no : false ≡ true = is in cc)
  cells_fine (column ∷ columns) [] is well = tt
  cells_fine (column ∷ columns) (c ∷ cs) is well =
      let both = both_of (is_cell kinds column c) (are_cells kinds columns cs) is in
      let all = both_of (is_held_cell c) (list_all is_held_cell cs) well in
      (cell_fine column c both.0 all.0, cells_fine columns cs both.1 all.1)

  rows_fine : (columns : List ColumnDef) (rows : List (List TypedCell)) → list_all (are_cells kinds columns) rows ≡ true → list_all (list_all is_held_cell) rows ≡ true
      → Each (λ cells. Each CellFine cells) (map (map spelled_cell) rows)
  rows_fine columns [] is well = tt
  rows_fine columns (cs ∷ rows) is well =
      let both = both_of (are_cells kinds columns cs) (list_all (are_cells kinds columns) rows) is in
      let all = both_of (list_all is_held_cell cs) (list_all (list_all is_held_cell) rows) well in
      (cells_fine columns cs both.0 all.0, rows_fine columns rows both.1 all.1)

-- ---- statements

module _ (tables : List TableDef) (allowed_tables : AreAllowed tables) (kinds : List ColType) where
  -- a table that is there
  record IsThere (t : TableDef) : Type 0 where
    named : IsNamed t.name
    columns : NamesOf t.columns
    all : Each IsNamed (column_names t.columns)

  there : (n : ℕ) (t : TableDef) → slice_get tables n ≡ Some t → IsThere t
  there n t is =
      let table = (table_is [] tables n t allowed_tables.1 is).1 in
      record {
        named = allowed_named t.name table.named;
        columns = column_named t.key t.serial [] t.columns table.columns;
        all = all_named t.key t.serial [] t.columns table.columns;
      }

  module _ (read : CheckedRead) (descs : List ColumnDesc) (well : is_held_read read descs ≡ true) where
    first : (count : Truth) → read.count ≡ count → is_held_list count read.list descs ≡ true
    first count is = ap (λ (c : Truth). is_held_list c read.list descs) (sym is) ∙ (both_of (is_held_list read.count read.list descs) (is_held_option read.filter && is_held_option read.limit) well).0

    rest : (is_held_option read.filter ≡ true) × (is_held_option read.limit ≡ true)
    rest = both_of (is_held_option read.filter) (is_held_option read.limit) (both_of (is_held_list read.count read.list descs) (is_held_option read.filter && is_held_option read.limit) well).1

    bare_whole : (not read.count && is_bare (around [] kinds) read descs) ≡ true → Whole (statement.Select (spelled_select None [] [] read descs))
    bare_whole is =
        let both = both_of (not read.count) (is_bare (around [] kinds) read descs) is in
        let count = not_is read.count both.0 in
        let one = both_of (is_list (around [] kinds) read.list) (are_results read.list descs && (is_none read.filter && is_plain read)) both.1 in
        let two = both_of (are_results read.list descs) (is_none read.filter && is_plain read) one.1 in
        let three = both_of (is_none read.filter) (is_plain read) two.1 in
        let plain = both_of (is_empty read.order) (is_none read.limit && not read.for_update) three.1 in
        let last = both_of (is_none read.limit) (not read.for_update) plain.1 in
        select_whole (spelled_select None [] [] read descs)
        (subst ListFine (sym (ap (λ (c : Truth). spelled_list c [] read.list descs) count)) (list_fine [] kinds no_names read.list descs one.0 two.0 (first false count)))
        tt
        (subst OptionFine (sym (ap (option_map (spelled [])) (none_is read.filter three.0))) tt)
        (subst (λ (os : List OrderItem). Each OrderFine os) (sym (ap (map (spelled_key [] [])) (empty_is read.order plain.0))) tt)
        (subst OptionFine (sym (ap (option_map (spelled_whole [])) (none_is read.limit last.0))) tt)

    module _ (t : TableDef) (is_there : IsThere t) where
      table_whole : (count : Truth) → read.count ≡ count → is_read_of kinds t count read descs ≡ true → Whole (statement.Select (spelled_select (Some t.name) t.name t.columns read descs))
      table_whole true is of =
          let names = around t.columns kinds in
          let one = both_of (is_empty read.list) (is_plain read && (is_filter names read.filter && is_count_result descs)) of in
          let two = both_of (is_plain read) (is_filter names read.filter && is_count_result descs) one.1 in
          let three = both_of (is_filter names read.filter) (is_count_result descs) two.1 in
          let plain = both_of (is_empty read.order) (is_none read.limit && not read.for_update) two.0 in
          let last = both_of (is_none read.limit) (not read.for_update) plain.1 in
          select_whole (spelled_select (Some t.name) t.name t.columns read descs)
          (subst ListFine (sym (ap (λ (c : Truth). spelled_list c t.columns read.list descs) is)) tt)
          is_there.named
          (filter_fine t.columns kinds is_there.columns read.filter three.0 rest.0)
          (keys_fine t.columns kinds is_there.columns t.name is_there.named read.order (ap (list_all (λ o. nat_lt o.column (length t.columns))) (empty_is read.order plain.0)))
          (limit_fine t.columns kinds is_there.columns read.limit (ap (is_limit names) (none_is read.limit last.0)) rest.1)
      table_whole false is of =
          let names = around t.columns kinds in
          let one = both_of (is_list names read.list) (are_results read.list descs && (is_filter names read.filter && (is_order t read.order && is_limit names read.limit))) of in
          let two = both_of (are_results read.list descs) (is_filter names read.filter && (is_order t read.order && is_limit names read.limit)) one.1 in
          let three = both_of (is_filter names read.filter) (is_order t read.order && is_limit names read.limit) two.1 in
          let four = both_of (is_order t read.order) (is_limit names read.limit) three.1 in
          let order = both_of (list_all (λ o. nat_lt o.column (length t.columns)) read.order) (is_key t (slice_get read.order (length read.order - 1))) four.0 in
          select_whole (spelled_select (Some t.name) t.name t.columns read descs)
          (subst ListFine (sym (ap (λ (c : Truth). spelled_list c t.columns read.list descs) is)) (list_fine t.columns kinds is_there.columns read.list descs one.0 two.0 (first false is)))
          is_there.named
          (filter_fine t.columns kinds is_there.columns read.filter three.0 rest.0)
          (keys_fine t.columns kinds is_there.columns t.name is_there.named read.order order.0)
          (limit_fine t.columns kinds is_there.columns read.limit four.1 rest.1)

    found_whole : (n : ℕ) (o : Option TableDef) → slice_get tables n ≡ o → is_read_from kinds o read descs ≡ true
        → Whole (statement.Select (spelled_select (Some (name_of o)) (name_of o) (columns_of o) read descs))
    found_whole n None at of = absurd (let no : false ≡ true = of in cc)
    found_whole n (Some t) at of = table_whole t (there n t at) read.count refl of

    read_whole : (o : Option ℕ) → is_read_at tables kinds o read descs ≡ true → Whole (statement.Select (spelled_read tables o read descs))
    read_whole None of = bare_whole of
    read_whole (Some n) of = found_whole n (slice_get tables n) refl of

  insert_by : (insert : CheckedInsert) → is_held_insert insert ≡ true → (o : Option TableDef) → slice_get tables insert.table ≡ o → of_table (is_insert kinds) o insert ≡ true
      → Whole (statement.Insert (record { table = name_of o; columns = Some (column_names (columns_of o)); rows = map (map spelled_cell) insert.rows }))
  insert_by insert well None at of = absurd (let no : false ≡ true = of in cc)
  insert_by insert well (Some t) at of =
      let is_there = there insert.table t at in
      let one = both_of (not (is_empty insert.rows)) (nat_lt (length insert.rows) 4294967296 && list_all (are_cells kinds t.columns) insert.rows) of in
      let two = both_of (nat_lt (length insert.rows) 4294967296) (list_all (are_cells kinds t.columns) insert.rows) one.1 in
      insert_whole t.name (column_names t.columns) (map (map spelled_cell) insert.rows) is_there.named is_there.all (rows_fine kinds t.columns insert.rows two.1 well)

  change_by : (change : CheckedChange) → is_held_change change ≡ true → (o : Option TableDef) → slice_get tables change.table ≡ o → of_table (is_change kinds) o change ≡ true
      → Whole (statement.Update (record { table = name_of o; sets = map (spelled_set (columns_of o)) change.sets; filter = option_map (spelled (columns_of o)) change.filter }))
  change_by change well None at of = absurd (let no : false ≡ true = of in cc)
  change_by change well (Some t) at of =
      let is_there = there change.table t at in
      let names = around t.columns kinds in
      let one = both_of (not (is_empty change.sets)) (are_apart change.sets && (list_all (is_set names t) change.sets && is_filter names change.filter)) of in
      let two = both_of (are_apart change.sets) (list_all (is_set names t) change.sets && is_filter names change.filter) one.1 in
      let three = both_of (list_all (is_set names t) change.sets) (is_filter names change.filter) two.1 in
      let held = both_of (list_all (λ (s : TypedSet). is_held_expr s.expr) change.sets) (is_held_option change.filter) well in
      update_whole (record { table = t.name; sets = map (spelled_set t.columns) change.sets; filter = option_map (spelled t.columns) change.filter }) is_there.named
      (sets_fine t.columns kinds is_there.columns t.key change.sets three.0 held.0) (filter_fine t.columns kinds is_there.columns change.filter three.1 held.1)

  remove_by : (remove : CheckedRemove) → is_held_remove remove ≡ true → (o : Option TableDef) → slice_get tables remove.table ≡ o → of_table (is_remove kinds) o remove ≡ true
      → Whole (statement.Delete (record { table = name_of o; filter = option_map (spelled (columns_of o)) remove.filter }))
  remove_by remove well None at of = absurd (let no : false ≡ true = of in cc)
  remove_by remove well (Some t) at of =
      let is_there = there remove.table t at in
      delete_whole (record { table = t.name; filter = option_map (spelled t.columns) remove.filter }) is_there.named (filter_fine t.columns kinds is_there.columns remove.filter of well)

  body_whole : (b : CheckedBody) (descs : List ColumnDesc) → is_body tables kinds b descs ≡ true → is_held_body b descs ≡ true → Whole (spelled_body tables descs b)
  body_whole (body.Read read) descs is well = read_whole read descs well read.table is
  body_whole (body.Insert insert) descs is well =
      insert_by insert well (slice_get tables insert.table) refl (both_of (is_empty descs) (of_table (is_insert kinds) (slice_get tables insert.table) insert) is).1
  body_whole (body.Change change) descs is well =
      change_by change well (slice_get tables change.table) refl (both_of (is_empty descs) (of_table (is_change kinds) (slice_get tables change.table) change) is).1
  body_whole (body.Remove remove) descs is well =
      remove_by remove well (slice_get tables remove.table) refl (both_of (is_empty descs) (of_table (is_remove kinds) (slice_get tables remove.table) remove) is).1

no_backend : (tables : List TableDef) (descs : List ColumnDesc) (b : CheckedBody) → IsBackend (spelled_body tables descs b)
no_backend tables descs (body.Read read) = tt
no_backend tables descs (body.Insert insert) = tt
no_backend tables descs (body.Change change) = tt
no_backend tables descs (body.Remove remove) = tt

abbrev IsLow : Expr → Type 0
IsLow e = greatest_number e < 2 ^ 63

lows : (es : List Expr) → Each Fine es → All IsLow es
lows [] each k d below = absurd (omega (arith, below))
lows (e ∷ es) each zero d below = (each.0).0
lows (e ∷ es) each (suc k) d below = lows es each.1 k d (omega (arith, below))

module _ (tables : List TableDef) (checked : Checked) (allowed_tables : AreAllowed tables) (is : is_of tables checked ≡ true) (well : is_held_statement checked ≡ true)
    (s : Statement) (same : s ≡ spelled_statement tables checked) where
  whole : Whole s
  whole = subst Whole (sym same) (body_whole tables allowed_tables checked.kinds checked.body checked.columns is well)

  pub are_low : All IsLow (expressions s)
  are_low = lows (expressions s) whole.0

  pub of_no_backend : IsBackend s
  of_no_backend = subst IsBackend (sym same) (no_backend tables checked.columns checked.body)

  pub are_writable : AreWritable (tokens_of s)
  are_writable = whole.1

  -- where the text is one of statements within the limits, a text can have the statement's tokens, and has room for them
  pub text_fits : (all : List Statement) → IsTextOf (statement_text s) all → Fits s
  text_fits all text =
      let tokens = fit s all are_writable text in
      record { lexemes = tokens.0; count = tokens.1; numbers = are_low; backend = of_no_backend }
