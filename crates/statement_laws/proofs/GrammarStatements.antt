-- The statement that a checked statement is spelled as is of the grammar.
use Rattle.std.proofs.Common.{◌≡◌, ◌∙◌, inl, inr, ℕ, zero, suc, ◌≤◌, ℤ, pos, negsuc, List, [], ◌∷◌, ◌++◌, ◌-◌, length, map, refl, ap, sym, subst, arith}
use Rattle.std.specs.Prelude.{◌&&◌, ◌==◌, ◌≤ℤ◌, T, not, nat_lt, Bool as Truth, true, false, All, IfSome, Option, Some, None, option_map, slice_get, bytes_eq, unwrap_or, if◌then◌else◌}
use Rattle.std.specs.List.{AllByRecursion, list_all}
use Rattle.std.specs.Int.Signed.{le_z, le_z_yes}
use Rattle.std.proofs.lemmas.Bool.{eqb-true, eqb-false, le-leb, leb-true, lt-leb, ltb-true}
use Rattle.std.proofs.lemmas.Option.{none-some}
use Rattle.pg_values.specs.declared.col_type.ColType.{ColType}
use Rattle.pg_values.specs.declared.col_type.ColType.TheVariants as kind
use Rattle.pg_values.specs.declared.value.Value.{Value}
use Rattle.pg_values.specs.declared.value.Value.TheVariants as value
use Rattle.schema.specs.declared.catalogue.ColumnDef.{ColumnDef}
use Rattle.schema.specs.declared.catalogue.TableDef.{TableDef}
use Rattle.schema.specs.Allowed.{AreAllowed, AreColumns}
use Rattle.sql_tree.specs.declared.expr.Expr.{Expr}
use Rattle.sql_tree.specs.declared.expr.Expr.TheVariants as expr
use Rattle.sql_tree.specs.declared.statement.OrderItem.{OrderItem}
use Rattle.sql_tree.specs.Trees.{AreParts, IsCell, IsDelete, IsInsert, IsItem, IsLimit, IsList, IsName, IsOrder, IsRow, IsSelect, IsSet, IsStatement, IsTree, IsUpdate}
use Rattle.typed_sql.specs.declared.asks.Takes.TheVariants.{Like, Whole}
use Rattle.typed_sql.specs.declared.typed.TypedExpr.{TypedExpr}
use Rattle.typed_sql.specs.declared.typed.TypedForm.{TypedForm, out-TypedForm, roll-TypedForm, roll-out-TypedForm}
use Rattle.typed_sql.specs.declared.typed.TypedForm.TheOpen.{TypedForm-F}
use Rattle.typed_sql.specs.declared.typed.TypedForm.TheVariants as form
use Rattle.typed_sql.specs.declared.typed.TypedSumPart.{TypedSumPart}
use Rattle.typed_sql.specs.declared.typed.TypedProductPart.{TypedProductPart}
use Rattle.typed_sql.specs.Places.{are_alike, is_whole, same_kind, takes as takes_kind}
use Rattle.catalogue.specs.declared.checked.Checked.{Checked}
use Rattle.catalogue.specs.declared.checked.CheckedBody.{CheckedBody}
use Rattle.catalogue.specs.declared.checked.CheckedBody.TheVariants as body
use Rattle.catalogue.specs.declared.checked.CheckedChange.{CheckedChange}
use Rattle.catalogue.specs.declared.checked.CheckedInsert.{CheckedInsert}
use Rattle.catalogue.specs.declared.checked.CheckedRead.{CheckedRead}
use Rattle.catalogue.specs.declared.checked.CheckedRemove.{CheckedRemove}
use Rattle.catalogue.specs.declared.checked.ColumnDesc.{ColumnDesc}
use Rattle.catalogue.specs.declared.checked.OrderKey.{OrderKey}
use Rattle.catalogue.specs.declared.checked.TypedCell.{TypedCell}
use Rattle.catalogue.specs.declared.checked.TypedCell.TheVariants as cell
use Rattle.catalogue.specs.declared.checked.TypedSet.{TypedSet}
use Rattle.catalogue.specs.Naming.{own_name}
use Rattle.checked_sql.specs.Sound.{Names, form_in, has_no_zero, is_moment, is_parameter, is_sound, is_value, stands}
use Rattle.checked_sql.specs.OfCatalogue.{are_apart, are_cells, are_results, around, is_bare, is_body, is_cell, is_change, is_count_result, is_empty, is_filter, is_insert, is_key, is_limit, is_limit_form, is_limit_layer, is_list, is_name, is_none, is_of, is_order, is_plain, is_read_at, is_read_from, is_read_of, is_remove, is_result, is_set, is_value_of, is_written, is_written_form, of_table}
use Rattle.checked_sql.proofs.Forms.{gives_literal, gives_param, sound_by_form}
use Rattle.checked_print.specs.Spelled.{Spelling, column_name, fits_int4, int8_part, is_least_int4, number, spelled, spelled_negated, spelled_value, spelled_whole, summand, widened}
use Rattle.checked_print.specs.Statements.{column_names, columns_of, name_of, spelled_body, spelled_cell, spelled_items, spelled_key, spelled_list, spelled_read, spelled_select, spelled_set, spelled_statement}
use Rattle.checked_print.proofs.Forms.{literal_is, minus_is, param_is}
use Rattle.checked_print.specs.Ranges.{fits_int8, are_held, is_held_body, is_held_cell, is_held_change, is_held_expr, is_held_insert, is_held_list, is_held_option, is_held_read, is_held_remove, is_held_statement, is_held}
use Rattle.statement_laws.proofs.Grammar.{allowed_name, told_name, trees}
use Rattle.statement_laws.proofs.Alike.{same_is}
use Rattle.statement_laws.proofs.Numbers.{both_of, int4_fits, number_least, number_negative, number_pos, strictly, wide_below}
use Rattle.checked_print.proofs.Held.{form_held, held_at, held_by_form}
use Rattle.statement_laws.proofs.Selects.{empty_is, none_is, not_is, within}
use Rattle.statement_laws.proofs.Tables.{table_is}

some_is : {A : Type 0} {a b : A} → Some a ≡ Some b → a ≡ b
some_is {A} {a} {b} is = ap (λ (o : Option A). unwrap_or o a) is

-- ---- names

column_name_is : (key : ℕ) (serial : Option ℕ) (before columns : List ColumnDef) (n : ℕ) (c : ColumnDef) → AreColumns key serial before columns → slice_get columns n ≡ Some c → IsName c.name
column_name_is key serial before [] n c are is = absurd (none-some c is)
column_name_is key serial before (x ∷ columns) zero c are is = subst (λ (d : ColumnDef). IsName d.name) (some_is is) (allowed_name x.name (are.0).named)
column_name_is key serial before (x ∷ columns) (suc n) c are is = column_name_is key serial (before ++ x ∷ []) columns n c are.2 is

all_names : (key : ℕ) (serial : Option ℕ) (before columns : List ColumnDef) → AreColumns key serial before columns → AllByRecursion IsName (column_names columns)
all_names key serial before [] are = tt
all_names key serial before (x ∷ columns) are = (allowed_name x.name (are.0).named, all_names key serial (before ++ x ∷ []) columns are.2)

names_long : (columns : List ColumnDef) → 1 ≤ length columns → 1 ≤ length (column_names columns)
names_long [] some = absurd (omega arith)
names_long (x ∷ columns) some = omega arith

abbrev NamesOf : List ColumnDef → Type 0
NamesOf columns = (n : ℕ) (c : ColumnDef) → slice_get columns n ≡ Some c → IsName c.name

no_names : NamesOf []
no_names n c is = absurd (none-some c is)

-- ---- limits

written_is : (f : TypedForm) → is_written_form f ≡ true → (v : Value) × (f ≡ form.Literal v) × (is_written v ≡ true)
written_is (form.Literal v) is = (v, refl, is)
written_is f is = absurd (let no : false ≡ true = is in cc)

abbrev MinusOf : Expr → Type 0
MinusOf x = (n : ℤ) × (pos 0 ≤ℤ n) × (x ≡ expr.Int n)

natural_is : (k : ℕ) → pos 0 ≤ℤ pos k
natural_is k = le_z_yes (subst T (sym (le-leb 0 k (omega arith))) tt)

-- a number that may stand behind a minus is spelled by its digits there
written_spelled : (v : Value) → is_written v ≡ true → MinusOf (spelled_value v).negated
written_spelled (value.Int4 (pos k)) is = (pos k, natural_is k, number_pos k)
written_spelled (value.Int4 (negsuc k)) is = absurd (let no : false ≡ true = is in cc)
written_spelled (value.Int8 (pos k)) is =
    let above = leb-true 2147483649 k is in
    let first : is_least_int4 (pos k) ≡ false = ap (λ (b : Truth). le_z (pos 2147483648) (pos k) && b) (lt-leb k 2147483648 (omega (arith, above))) ∙ and_false (le_z (pos 2147483648) (pos k)) in
    let second : fits_int4 (pos k) ≡ false = lt-leb k 2147483647 (omega (arith, above)) in (
      pos k,
      natural_is k,
      ap (λ (b : Truth). if b then expr.Sum (expr.Int (pos k)) (summand false (expr.Int (pos 0)) ∷ []) else int8_part (pos k)) first
          ∙ (ap (λ (b : Truth). if b then widened (pos k) else number (pos k)) second ∙ number_pos k),
    )
  where
    and_false : (b : Truth) → (b && false) ≡ false
    and_false true = refl
    and_false false = refl
written_spelled (value.Int8 (negsuc k)) is = absurd (let no : false ≡ true = is in cc)
written_spelled value.Null is = absurd (let no : false ≡ true = is in cc)
written_spelled (value.Bool b) is = absurd (let no : false ≡ true = is in cc)
written_spelled (value.Text text) is = absurd (let no : false ≡ true = is in cc)
written_spelled (value.Moment m) is = absurd (let no : false ≡ true = is in cc)

number_limit : (n : ℤ) → fits_int8 n ≡ true → IsLimit (number n)
number_limit (pos k) fits = inl (pos k, (inl (natural_is k), number_pos k))
number_limit (negsuc k) fits = by_least (k == 9223372036854775807) refl
  where
    by_least : (b : Truth) → (k == 9223372036854775807) ≡ b → IsLimit (number (negsuc k))
    by_least true same =
        let last : k ≡ 9223372036854775807 = eqb-true k 9223372036854775807 same in
        inl (negsuc k, (inr (ap negsuc last), number_least k (omega (arith, last))))
    by_least false same =
        let few = wide_below k fits in
        inr (inl (pos (suc k), (natural_is (suc k), number_negative k (strictly k 9223372036854775807 few (eqb-false k 9223372036854775807 same)))))

value_limit : (k : ColType) (v : Value) → is_whole k ≡ true → is_value k v ≡ true → is_held v ≡ true → IsLimit (spelled_value v).whole
value_limit k value.Null whole is held = inr (inr (inl refl))
value_limit k (value.Int4 n) whole is held = number_limit n (int4_fits n held)
value_limit k (value.Int8 n) whole is held = number_limit n held
value_limit k (value.Bool b) whole is held = absurd (let no : false ≡ true = sym (ap is_whole (same_is k kind.Bool is)) ∙ whole in cc)
value_limit k (value.Text text) whole is held = absurd (let no : false ≡ true = sym (ap is_whole (same_is k kind.Text (both_of (same_kind k kind.Text) (has_no_zero text) is).0)) ∙ whole in cc)
value_limit k (value.Moment m) whole is held = absurd (let no : false ≡ true = sym (ap is_whole (same_is k kind.Moment (both_of (same_kind k kind.Moment) (is_moment m) is).0)) ∙ whole in cc)

-- a literal is in the range of its type
held_by : (e : TypedExpr) (v : Value) → e.form ≡ form.Literal v → is_held_expr e ≡ true → is_held v ≡ true
held_by e v is well =
    sym (held_at (TypedForm-F.Literal v)) ∙ (ap form_held (form.rolls-Literal v ∙ sym is) ∙ (sym (held_by_form e) ∙ well))

module _ (columns : List ColumnDef) (kinds : List ColType) where
  abbrev names : Names
  names = around columns kinds

  above_zero : (n : ℕ) (k : ColType) → is_parameter kinds n k ≡ true → 1 ≤ n
  above_zero zero k is = absurd (let no : false ≡ true = is in cc)
  above_zero (suc n) k is = omega arith

  limit_by : (e : TypedExpr) (d : TypedForm-F TypedForm TypedExpr TypedProductPart TypedSumPart) → e.form ≡ roll-TypedForm d → is_limit_layer d ≡ true → is_whole e.kind ≡ true
      → (form_in names e.form).gives e.kind ≡ true → is_held_expr e ≡ true → IsLimit (spelled_whole columns e)
  limit_by e (TypedForm-F.Param n) is of whole gives well =
      subst IsLimit (sym (ap (λ (s : Spelling). s.whole) (param_is columns e n (is ∙ form.rolls-Param n))))
      (inr (inr (inr (n, (above_zero n e.kind (sym (gives_param names e.form e.kind n (is ∙ form.rolls-Param n)) ∙ gives), refl)))))
  limit_by e (TypedForm-F.Literal v) is of whole gives well =
      let eq = is ∙ form.rolls-Literal v in
      subst IsLimit (sym (ap (λ (s : Spelling). s.whole) (literal_is columns e v eq)))
      (value_limit e.kind v whole (sym (gives_literal names e.form e.kind v eq) ∙ gives) (held_by e v eq well))
  limit_by e (TypedForm-F.Minus a) is of whole gives well =
      let eq = is ∙ form.rolls-Minus a in
      let written = written_is a.form of in
      let spells = written_spelled written.0 written.2 in
      let digits : spelled_negated columns a ≡ expr.Int spells.0 = ap (λ (s : Spelling). s.negated) (literal_is columns a written.0 written.1) ∙ spells.2 in
      subst IsLimit (sym (ap (λ (s : Spelling). s.whole) (minus_is columns e a eq)))
      (inr (inl (spells.0, (spells.1, ap expr.Minus digits))))
  limit_by e d is of whole gives well = absurd (let no : false ≡ true = of in cc)

  pub limit_tree : (limit : Option TypedExpr) → is_limit names limit ≡ true → is_held_option limit ≡ true → IfSome (option_map (spelled_whole columns) limit) IsLimit
  limit_tree None is well = tt
  limit_tree (Some e) is well =
      let form = both_of (is_limit_form e.form) (stands names Whole e) is in
      let both = both_of (is_whole e.kind) (is_sound names e) form.1 in
      let sound = both_of ((form_in names e.form).gives e.kind) (form_in names e.form).fits (sym (sound_by_form names e) ∙ both.1) in
      limit_by e (out-TypedForm e.form) (sym (roll-out-TypedForm e.form)) form.0 both.0 sound.0 well

  -- ---- filters and items

  module _ (named : NamesOf columns) where
    filter_tree : (filter : Option TypedExpr) → is_filter names filter ≡ true → is_held_option filter ≡ true → IfSome (option_map (spelled columns) filter) IsTree
    filter_tree None is well = tt
    filter_tree (Some e) is well = (trees columns kinds named e well (both_of (takes_kind (Like kind.Bool) e.kind) (is_sound names e) is).1).0

    name_tree : (b : Truth) (name : List ℕ) → is_name name ≡ true → IfSome (if b then None else Some name) IsName
    name_tree true name is = tt
    name_tree false name is = told_name name is

    items_tree : (es : List TypedExpr) (descs : List ColumnDesc) → list_all (is_sound names) es ≡ true → are_results es descs ≡ true → are_held es descs ≡ true
        → AllByRecursion IsItem (spelled_items columns es descs)
    items_tree [] descs sound is well = tt
    items_tree (e ∷ es) [] sound is well = tt
    items_tree (e ∷ es) (d ∷ descs) sound is well =
        let all = both_of (is_sound names e) (list_all (is_sound names) es) sound in
        let both = both_of (is_result e d) (are_results es descs) is in
        let formed = both_of (is_held_expr e) (are_held es descs) well in (
          (
            (trees columns kinds named e formed.0 all.0).0,
            name_tree (bytes_eq (own_name (spelled columns e)) d.name) d.name (both_of (same_kind d.kind e.kind) (is_name d.name) both.0).1,
          ),
          items_tree es descs all.1 both.1 formed.1,
        )

    items_long : (es : List TypedExpr) (descs : List ColumnDesc) → not (is_empty es) ≡ true → are_results es descs ≡ true → 1 ≤ length (spelled_items columns es descs)
    items_long [] descs some is = absurd (let no : false ≡ true = some in cc)
    items_long (e ∷ es) [] some is = absurd (let no : false ≡ true = is in cc)
    items_long (e ∷ es) (d ∷ descs) some is = omega arith

    list_tree : (es : List TypedExpr) (descs : List ColumnDesc) → is_list names es ≡ true → are_results es descs ≡ true → are_held es descs ≡ true → AreParts IsItem 1 (spelled_items columns es descs)
    list_tree es descs is results well =
        let some = both_of (not (is_empty es)) (nat_lt (length es) 1665 && list_all (is_sound names) es) is in
        let few = both_of (nat_lt (length es) 1665) (list_all (is_sound names) es) some.1 in
        (items_long es descs some.0 results, items_tree es descs few.1 results well)

    set_by : (s : TypedSet) (o : Option ColumnDef) → slice_get columns s.column ≡ o → is_value_of names o s.expr ≡ true → is_held_expr s.expr ≡ true → IsSet (spelled_set columns s)
    set_by s None there is well = absurd (let no : false ≡ true = is in cc)
    set_by s (Some c) there is well =
        (subst IsName (sym (ap column_name there)) (named s.column c there), (trees columns kinds named s.expr well (both_of (are_alike c.kind s.expr.kind) (is_sound names s.expr) is).1).2)

    sets_tree : (key : ℕ) (sets : List TypedSet) → list_all (λ s. not (s.column == key) && is_value_of names (slice_get columns s.column) s.expr) sets ≡ true
        → list_all (λ s. is_held_expr s.expr) sets ≡ true → AllByRecursion IsSet (map (spelled_set columns) sets)
    sets_tree key [] is well = tt
    sets_tree key (s ∷ sets) is well =
        let one = not (s.column == key) && is_value_of names (slice_get columns s.column) s.expr in
        let both = both_of one (list_all (λ (r : TypedSet). not (r.column == key) && is_value_of names (slice_get columns r.column) r.expr) sets) is in
        let all = both_of (is_held_expr s.expr) (list_all (λ (r : TypedSet). is_held_expr r.expr) sets) well in
        (set_by s (slice_get columns s.column) refl (both_of (not (s.column == key)) (is_value_of names (slice_get columns s.column) s.expr) both.0).1 all.0, sets_tree key sets both.1 all.1)

    keys_tree : (name : List ℕ) → IsName name → (keys : List OrderKey) → list_all (λ o. nat_lt o.column (length columns)) keys ≡ true → All IsOrder (map (spelled_key name columns) keys)
    keys_tree name is [] of k d below = absurd (omega arith)
    keys_tree name is (key ∷ keys) of zero d below =
        let both = both_of (nat_lt key.column (length columns)) (list_all (λ o. nat_lt o.column (length columns)) keys) of in
        let found = within columns key.column (ltb-true key.column (length columns) both.0) in
        (is, subst IsName (sym (ap column_name found.1)) (named key.column found.0 found.1))
    keys_tree name is (key ∷ keys) of (suc k) d below =
        keys_tree name is keys (both_of (nat_lt key.column (length columns)) (list_all (λ o. nat_lt o.column (length columns)) keys) of).1 k d (omega arith)

map_some : {A B : Type 0} (f : A → B) (xs : List A) → not (is_empty xs) ≡ true → 1 ≤ length (map f xs)
map_some f [] some = absurd (let no : false ≡ true = some in cc)
map_some f (x ∷ xs) some = omega arith

-- ---- rows

module _ (kinds : List ColType) where
  cell_tree : (column : ColumnDef) (c : TypedCell) → is_cell kinds column c ≡ true → is_held_cell c ≡ true → IsCell (spelled_cell c)
  cell_tree column cell.Serial is well = tt
  cell_tree column cell.Now is well = tt
  cell_tree column (cell.Given e) is well =
      (trees [] kinds no_names e well (both_of (are_alike column.kind e.kind) (is_sound (around [] kinds) e) is).1).2

  cells_tree : (columns : List ColumnDef) (cs : List TypedCell) → are_cells kinds columns cs ≡ true → list_all is_held_cell cs ≡ true → AllByRecursion IsCell (map spelled_cell cs)
  cells_tree [] [] is well = tt
  cells_tree [] (c ∷ cs) is well = absurd (let no : false ≡ true = is in cc)
  cells_tree (column ∷ columns) [] is well = tt
  cells_tree (column ∷ columns) (c ∷ cs) is well =
      let both = both_of (is_cell kinds column c) (are_cells kinds columns cs) is in
      let all = both_of (is_held_cell c) (list_all is_held_cell cs) well in
      (cell_tree column c both.0 all.0, cells_tree columns cs both.1 all.1)

  cells_long : (columns : List ColumnDef) (cs : List TypedCell) → 1 ≤ length columns → are_cells kinds columns cs ≡ true → 1 ≤ length (map spelled_cell cs)
  cells_long [] cs some is = absurd (omega arith)
  cells_long (column ∷ columns) [] some is = absurd (let no : false ≡ true = is in cc)
  cells_long (column ∷ columns) (c ∷ cs) some is = omega arith

  rows_tree : (columns : List ColumnDef) (rows : List (List TypedCell)) → 1 ≤ length columns → list_all (are_cells kinds columns) rows ≡ true → list_all (list_all is_held_cell) rows ≡ true
      → AllByRecursion IsRow (map (map spelled_cell) rows)
  rows_tree columns [] some is well = tt
  rows_tree columns (cs ∷ rows) some is well =
      let both = both_of (are_cells kinds columns cs) (list_all (are_cells kinds columns) rows) is in
      let all = both_of (list_all is_held_cell cs) (list_all (list_all is_held_cell) rows) well in
      ((cells_long columns cs some both.0, cells_tree columns cs both.0 all.0), rows_tree columns rows some both.1 all.1)

-- ---- statements

module _ (tables : List TableDef) (allowed : AreAllowed tables) (kinds : List ColType) where
  -- a table that is there
  record IsThere (t : TableDef) : Type 0 where
    named : IsName t.name
    columns : NamesOf t.columns
    all : AllByRecursion IsName (column_names t.columns)
    some : 1 ≤ length t.columns

  there : (n : ℕ) (t : TableDef) → slice_get tables n ≡ Some t → IsThere t
  there n t is =
      let table = (table_is [] tables n t allowed.1 is).1 in
      record {
        named = allowed_name t.name table.named;
        columns = λ i c at. column_name_is t.key t.serial [] t.columns i c table.columns at;
        all = all_names t.key t.serial [] t.columns table.columns;
        some = (let below = table.has_key in omega (arith, below));
      }

  module _ (read : CheckedRead) (descs : List ColumnDesc) (well : is_held_read read descs ≡ true) where
    first : (count : Truth) → read.count ≡ count → is_held_list count read.list descs ≡ true
    first count is = ap (λ (c : Truth). is_held_list c read.list descs) (sym is) ∙ (both_of (is_held_list read.count read.list descs) (is_held_option read.filter && is_held_option read.limit) well).0

    rest : (is_held_option read.filter ≡ true) × (is_held_option read.limit ≡ true)
    rest = both_of (is_held_option read.filter) (is_held_option read.limit) (both_of (is_held_list read.count read.list descs) (is_held_option read.filter && is_held_option read.limit) well).1

    bare_tree : (not read.count && is_bare (around [] kinds) read descs) ≡ true → IsSelect (spelled_select None [] [] read descs)
    bare_tree is =
        let both = both_of (not read.count) (is_bare (around [] kinds) read descs) is in
        let count = not_is read.count both.0 in
        let one = both_of (is_list (around [] kinds) read.list) (are_results read.list descs && (is_none read.filter && is_plain read)) both.1 in
        let two = both_of (are_results read.list descs) (is_none read.filter && is_plain read) one.1 in
        let three = both_of (is_none read.filter) (is_plain read) two.1 in
        let plain = both_of (is_empty read.order) (is_none read.limit && not read.for_update) three.1 in
        let last = both_of (is_none read.limit) (not read.for_update) plain.1 in
        let items : spelled_list read.count [] read.list descs ≡ spelled_list false [] read.list descs = ap (λ (c : Truth). spelled_list c [] read.list descs) count in
        let filter : option_map (spelled []) read.filter ≡ None = ap (option_map (spelled [])) (none_is read.filter three.0) in
        let order : map (spelled_key [] []) read.order ≡ [] = ap (map (spelled_key [] [])) (empty_is read.order plain.0) in
        let limit : option_map (spelled_whole []) read.limit ≡ None = ap (option_map (spelled_whole [])) (none_is read.limit last.0) in
        record {
          given = subst IsList (sym items) (list_tree [] kinds no_names read.list descs one.0 two.0 (first false count));
          table = tt;
          filter = subst (λ (f : Option Expr). IfSome f IsTree) (sym filter) tt;
          order = subst (λ (os : List OrderItem). All IsOrder os) (sym order) (λ k d below. absurd (omega arith));
          limit = subst (λ (l : Option Expr). IfSome l IsLimit) (sym limit) tt;
          alone = λ none. record {
            items = (spelled_items [] read.list descs, items);
            filter = filter;
            order = order;
            limit = limit;
            for_update = not_is read.for_update last.1;
          };
        }

    module _ (t : TableDef) (is_there : IsThere t) where
      some_table : Some t.name ≡ None → ⊥
      some_table is = none-some t.name (sym is)

      table_tree : (count : Truth) → read.count ≡ count → is_read_of kinds t count read descs ≡ true → IsSelect (spelled_select (Some t.name) t.name t.columns read descs)
      table_tree true is of =
          let names = around t.columns kinds in
          let one = both_of (is_empty read.list) (is_plain read && (is_filter names read.filter && is_count_result descs)) of in
          let two = both_of (is_plain read) (is_filter names read.filter && is_count_result descs) one.1 in
          let three = both_of (is_filter names read.filter) (is_count_result descs) two.1 in
          let plain = both_of (is_empty read.order) (is_none read.limit && not read.for_update) two.0 in
          let last = both_of (is_none read.limit) (not read.for_update) plain.1 in
          record {
            given = subst IsList (sym (ap (λ (c : Truth). spelled_list c t.columns read.list descs) is)) tt;
            table = is_there.named;
            filter = filter_tree t.columns kinds is_there.columns read.filter three.0 rest.0;
            order = keys_tree t.columns kinds is_there.columns t.name is_there.named read.order (ap (list_all (λ o. nat_lt o.column (length t.columns))) (empty_is read.order plain.0));
            limit = limit_tree t.columns kinds read.limit (ap (is_limit names) (none_is read.limit last.0)) rest.1;
            alone = λ none. absurd (some_table none);
          }
      table_tree false is of =
          let names = around t.columns kinds in
          let one = both_of (is_list names read.list) (are_results read.list descs && (is_filter names read.filter && (is_order t read.order && is_limit names read.limit))) of in
          let two = both_of (are_results read.list descs) (is_filter names read.filter && (is_order t read.order && is_limit names read.limit)) one.1 in
          let three = both_of (is_filter names read.filter) (is_order t read.order && is_limit names read.limit) two.1 in
          let four = both_of (is_order t read.order) (is_limit names read.limit) three.1 in
          let order = both_of (list_all (λ o. nat_lt o.column (length t.columns)) read.order) (is_key t (slice_get read.order (length read.order - 1))) four.0 in
          record {
            given = subst IsList (sym (ap (λ (c : Truth). spelled_list c t.columns read.list descs) is)) (list_tree t.columns kinds is_there.columns read.list descs one.0 two.0 (first false is));
            table = is_there.named;
            filter = filter_tree t.columns kinds is_there.columns read.filter three.0 rest.0;
            order = keys_tree t.columns kinds is_there.columns t.name is_there.named read.order order.0;
            limit = limit_tree t.columns kinds read.limit four.1 rest.1;
            alone = λ none. absurd (some_table none);
          }

    found_tree : (n : ℕ) (o : Option TableDef) → slice_get tables n ≡ o → is_read_from kinds o read descs ≡ true → IsSelect (spelled_select (Some (name_of o)) (name_of o) (columns_of o) read descs)
    found_tree n None at of = absurd (let no : false ≡ true = of in cc)
    found_tree n (Some t) at of = table_tree t (there n t at) read.count refl of

    read_tree : (o : Option ℕ) → is_read_at tables kinds o read descs ≡ true → IsSelect (spelled_read tables o read descs)
    read_tree None of = bare_tree of
    read_tree (Some n) of = found_tree n (slice_get tables n) refl of

  insert_tree : (insert : CheckedInsert) → is_held_insert insert ≡ true → (o : Option TableDef) → slice_get tables insert.table ≡ o → of_table (is_insert kinds) o insert ≡ true
      → IsInsert (record { table = name_of o; columns = Some (column_names (columns_of o)); rows = map (map spelled_cell) insert.rows })
  insert_tree insert well None at of = absurd (let no : false ≡ true = of in cc)
  insert_tree insert well (Some t) at of =
      let is_there = there insert.table t at in
      let one = both_of (not (is_empty insert.rows)) (nat_lt (length insert.rows) 4294967296 && list_all (are_cells kinds t.columns) insert.rows) of in
      let two = both_of (nat_lt (length insert.rows) 4294967296) (list_all (are_cells kinds t.columns) insert.rows) one.1 in
      record {
        table = is_there.named;
        columns = (names_long t.columns is_there.some, is_there.all);
        rows = (map_some (map spelled_cell) insert.rows one.0, rows_tree kinds t.columns insert.rows is_there.some two.1 well);
      }

  change_tree : (change : CheckedChange) → is_held_change change ≡ true → (o : Option TableDef) → slice_get tables change.table ≡ o → of_table (is_change kinds) o change ≡ true
      → IsUpdate (record { table = name_of o; sets = map (spelled_set (columns_of o)) change.sets; filter = option_map (spelled (columns_of o)) change.filter })
  change_tree change well None at of = absurd (let no : false ≡ true = of in cc)
  change_tree change well (Some t) at of =
      let is_there = there change.table t at in
      let names = around t.columns kinds in
      let one = both_of (not (is_empty change.sets)) (are_apart change.sets && (list_all (is_set names t) change.sets && is_filter names change.filter)) of in
      let two = both_of (are_apart change.sets) (list_all (is_set names t) change.sets && is_filter names change.filter) one.1 in
      let three = both_of (list_all (is_set names t) change.sets) (is_filter names change.filter) two.1 in
      let formed = both_of (list_all (λ (s : TypedSet). is_held_expr s.expr) change.sets) (is_held_option change.filter) well in
      record {
        table = is_there.named;
        sets = (map_some (spelled_set t.columns) change.sets one.0, sets_tree t.columns kinds is_there.columns t.key change.sets three.0 formed.0);
        filter = filter_tree t.columns kinds is_there.columns change.filter three.1 formed.1;
      }

  remove_tree : (remove : CheckedRemove) → is_held_remove remove ≡ true → (o : Option TableDef) → slice_get tables remove.table ≡ o → of_table (is_remove kinds) o remove ≡ true
      → IsDelete (record { table = name_of o; filter = option_map (spelled (columns_of o)) remove.filter })
  remove_tree remove well None at of = absurd (let no : false ≡ true = of in cc)
  remove_tree remove well (Some t) at of =
      let is_there = there remove.table t at in
      record { table = is_there.named; filter = filter_tree t.columns kinds is_there.columns remove.filter of well }

  body_tree : (b : CheckedBody) (descs : List ColumnDesc) → is_body tables kinds b descs ≡ true → is_held_body b descs ≡ true → IsStatement (spelled_body tables descs b)
  body_tree (body.Read read) descs is well = read_tree read descs well read.table is
  body_tree (body.Insert insert) descs is well =
      insert_tree insert well (slice_get tables insert.table) refl (both_of (is_empty descs) (of_table (is_insert kinds) (slice_get tables insert.table) insert) is).1
  body_tree (body.Change change) descs is well =
      change_tree change well (slice_get tables change.table) refl (both_of (is_empty descs) (of_table (is_change kinds) (slice_get tables change.table) change) is).1
  body_tree (body.Remove remove) descs is well =
      remove_tree remove well (slice_get tables remove.table) refl (both_of (is_empty descs) (of_table (is_remove kinds) (slice_get tables remove.table) remove) is).1

-- over tables that a schema can have
pub statement_tree : (tables : List TableDef) (checked : Checked) → AreAllowed tables → is_of tables checked ≡ true → is_held_statement checked ≡ true
    → IsStatement (spelled_statement tables checked)
statement_tree tables checked allowed is well = body_tree tables allowed checked.kinds checked.body checked.columns is well
