-- What a read gives has the columns of its result.
use Rattle.std.proofs.Common.{◌≡◌, ◌∙◌, ℕ, ℤ, pos, ◌≤◌, List, [], ◌∷◌, map, length, refl, ap, subst}
use Rattle.std.specs.Prelude.{◌&&◌, nat_le, nat_lt, not, Bool as Truth, true, false, Option, Some, None, Ok, Err, slice_get, if◌then◌else◌}
use Rattle.std.specs.List.{AllByRecursion, list_all}
use Rattle.std.proofs.lemmas.Bool.{le-leb}
use Rattle.pg_values.specs.declared.col_type.ColType.{ColType}
use Rattle.pg_values.specs.declared.col_type.ColType.TheVariants.{Int8}
use Rattle.pg_values.specs.declared.value.Value.{Value}
use Rattle.pg_values.specs.declared.value.Value.TheVariants as value
use Rattle.schema.specs.declared.catalogue.ColumnDef.{ColumnDef}
use Rattle.schema.specs.declared.catalogue.TableDef.{TableDef}
use Rattle.typed_sql.specs.declared.typed.TypedExpr.{TypedExpr}
use Rattle.typed_sql.specs.Places.{same_kind}
use Rattle.catalogue.specs.declared.checked.Checked.{Checked}
use Rattle.catalogue.specs.declared.checked.CheckedBody.{CheckedBody}
use Rattle.catalogue.specs.declared.checked.CheckedBody.TheVariants as body
use Rattle.catalogue.specs.declared.checked.CheckedRead.{CheckedRead}
use Rattle.catalogue.specs.declared.checked.ColumnDesc.{ColumnDesc}
use Rattle.checked_sql.specs.Sound.{are_fit, is_sound, is_value}
use Rattle.checked_sql.specs.OfCatalogue.{are_results, around, is_bare, is_body, is_count_result, is_empty, is_filter, is_limit, is_list, is_name, is_none, is_of, is_order, is_plain, is_read_at, is_read_from, is_read_of, is_result}
use Rattle.sql_values.specs.Meaning.{value_in}
use Rattle.sql_eval.specs.declared.row.Row.{Row}
use Rattle.sql_eval.specs.declared.effect.Change.{Change}
use Rattle.sql_eval.specs.declared.effect.ReadEffect.{ReadEffect}
use Rattle.sql_eval.specs.Views.{View, Entry, columns_of, entries_in, entry}
use Rattle.sql_eval.specs.Walks.{Coded, all_of, behind, made, walked}
use Rattle.sql_eval.specs.Ordered.{ordered, row_order}
use Rattle.sql_eval.specs.Reads.{alone, at_row, counted, cut, entries_read, fitting, kept, limit_in, listed, no_row, read_in, reading, result_row, row_of, row_size, shown}
use Rattle.sql_eval.specs.Stored.{change_in, remove_in}
use Rattle.sql_eval.specs.Inserts.{insert_in}
use Rattle.sql_eval.specs.Effects.{Reads, Writes, given_by}
use Rattle.backend_trait.proofs.Tables.{walked_all}
use Rattle.backend_trait.specs.Typed.{AreAllStored, IsOutcomeOf, IsStored, has_columns, kinds_of}
use Rattle.backend_trait.proofs.Truths.{and_true, both_true, same_is}
use Rattle.backend_trait.proofs.Values.{value_typed}
use Rattle.backend_trait.proofs.Walks.{Gave, all_gave, behind_ok, fitting_is, given_is, sorted_all, take_all}
use Rattle.backend_trait.proofs.Stood.{all_in}
use Rattle.backend_trait.proofs.LeftRows.{kept_same}

abbrev pub AreOf : List ColumnDesc → List Row → Type 0
AreOf columns rows = AllByRecursion (λ (row : Row). has_columns columns row ≡ true) rows

count_typed : (columns : List ColumnDesc) (n : ℕ) → is_count_result columns ≡ true → has_columns columns (row_of (value.Int8 (pos n) ∷ [])) ≡ true
count_typed [] n is = absurd (let e : false ≡ true = is in cc)
count_typed (column ∷ []) n is =
    let kind_is = (and_true (same_kind column.kind Int8) (is_name column.name) is).0 in
    both_true (same_kind column.kind Int8 && true) true (both_true (same_kind column.kind Int8) true kind_is refl) refl
count_typed (column ∷ other ∷ columns) n is = absurd (let e : false ≡ true = is in cc)

module _ (cols : List ColumnDef) (read : CheckedRead) (columns : List ColumnDesc) where
  -- a row of these columns
  abbrev pub IsOf : Entry → Type 0
  IsOf e = are_fit (kinds_of cols) e.row.cells ≡ true

  abbrev AreSound : List TypedExpr → Type 0
  AreSound es = list_all (is_sound (around cols [])) es ≡ true

  results_fit : (row : Row) → are_fit (kinds_of cols) row.cells ≡ true → (es : List TypedExpr) (results : List ColumnDesc) (cells : List Value)
      → AreSound es → are_results es results ≡ true → Gave (value_in (at_row alone row)) es cells → are_fit (map (λ c. c.kind) results) cells ≡ true
  results_fit row fit [] [] [] sound are gave = refl
  results_fit row fit [] [] (v ∷ cells) sound are gave = elim gave [ ]
  results_fit row fit [] (c ∷ results) cells sound are gave = absurd (let e : false ≡ true = are in cc)
  results_fit row fit (e ∷ es) [] cells sound are gave = absurd (let f : false ≡ true = are in cc)
  results_fit row fit (e ∷ es) (c ∷ results) [] sound are gave = elim gave [ ]
  results_fit row fit (e ∷ es) (c ∷ results) (v ∷ cells) sound are gave =
      let nodes = and_true (is_sound (around cols []) e) (list_all (is_sound (around cols [])) es) sound in
      let both = and_true (is_result e c) (are_results es results) are in
      let kind_is = same_is c.kind e.kind (and_true (same_kind c.kind e.kind) (is_name c.name) both.0).0 in
      let typed : is_value e.kind v ≡ true = subst (IsOutcomeOf e.kind) gave.0 (value_typed cols row.cells fit e nodes.0) in
      both_true (is_value c.kind v) (are_fit (map (λ d. d.kind) results) cells) (ap (λ (k : ColType). is_value k v) kind_is ∙ typed)
      (results_fit row fit es results cells nodes.1 both.1 gave.1)

  module _ (sound : AreSound read.list) (are : are_results read.list columns ≡ true) where
    out_typed : (row out : Row) → are_fit (kinds_of cols) row.cells ≡ true → result_row alone read.list row ≡ Ok out → has_columns columns out ≡ true
    out_typed row out fit given =
        let f = value_in (at_row alone row) in
        let one = behind_ok (all_of (map f read.list)) (λ cells. fitting (row_of cells)) out given in
        let fits = fitting_is (row_of one.0) out one.2 in
        let cells_fit = results_fit row fit read.list columns one.0 sound are (all_gave f read.list one.0 one.1) in
        both_true (are_fit (map (λ c. c.kind) columns) out.cells) (nat_le (row_size out) 1048000)
        (subst (λ (r : Row). are_fit (map (λ c. c.kind) columns) r.cells ≡ true) fits.0 cells_fit)
        (le-leb (row_size out) 1048000 (subst (λ (r : Row). row_size r ≤ 1048000) fits.0 fits.1))

    rows_typed : (es : List Entry) (rows : List Row) → AllByRecursion IsOf es → Gave (λ (e : Entry). result_row alone read.list e.row) es rows → AreOf columns rows
    rows_typed [] [] all gave = tt
    rows_typed [] (row ∷ rows) all gave = elim gave [ ]
    rows_typed (e ∷ es) [] all gave = elim gave [ ]
    rows_typed (e ∷ es) (row ∷ rows) all gave = (out_typed e.row row all.0 gave.0, rows_typed es rows all.1 gave.1)

    listed_typed : (es : List Entry) (r : ReadEffect) → AllByRecursion IsOf es → listed alone read es ≡ Ok r → AreOf columns r.rows
    listed_typed es r all given =
        let f = λ (e : Entry). result_row alone read.list e.row in
        let one = behind_ok (all_of (map f es)) (λ rows. Ok (reading read.for_update es rows)) r given in
        subst (λ (x : ReadEffect). AreOf columns x.rows) (given_is (reading read.for_update es one.0) r one.2) (rows_typed es one.0 all (all_gave f es one.0 one.1))

    cut_all : (limit : Option ℕ) (es : List Entry) → AllByRecursion IsOf es → AllByRecursion IsOf (cut limit es)
    cut_all None es all = all
    cut_all (Some n) es all = take_all IsOf n es all

    rows_shown : (es : List Entry) (r : ReadEffect) → AllByRecursion IsOf es
        → behind (limit_in alone read.limit) (λ limit. listed alone read (cut limit (ordered read.order es))) ≡ Ok r → AreOf columns r.rows
    rows_shown es r all given =
        let one = behind_ok (limit_in alone read.limit) (λ limit. listed alone read (cut limit (ordered read.order es))) r given in
        listed_typed (cut one.0 (ordered read.order es)) r
        (cut_all one.0 (ordered read.order es) (sorted_all IsOf (λ a b. row_order read.order a.row b.row) es all)) one.2

  count_shown : (n : ℕ) (r : ReadEffect) → is_count_result columns ≡ true → ◌≡◌ {A = Coded ReadEffect} (Ok (counted n)) (Ok r) → AreOf columns r.rows
  count_shown n r is given = subst (λ (x : ReadEffect). AreOf columns x.rows) (given_is (counted n) r given) (count_typed columns n is, tt)

  -- a list that is sound, and one result for each item
  sound_list : (b : Truth) → (is_list (around cols []) read.list && (are_results read.list columns && b)) ≡ true → AreSound read.list × (are_results read.list columns ≡ true)
  sound_list b is =
      let both = and_true (is_list (around cols []) read.list) (are_results read.list columns && b) is in
      let some = (and_true (not (is_empty read.list)) (nat_lt (length read.list) 1665 && list_all (is_sound (around cols [])) read.list) both.0).1 in
      ((and_true (nat_lt (length read.list) 1665) (list_all (is_sound (around cols [])) read.list) some).1, (and_true (are_results read.list columns) b both.1).0)

  pub kept_all : (es fs : List Entry) → AllByRecursion IsOf es → walked (kept alone read.filter) es ≡ Ok fs → AllByRecursion IsOf fs
  kept_all es fs all is = walked_all (kept alone read.filter) IsOf IsOf (λ e here x told. subst IsOf (kept_same read.filter e x told) here) es fs all is

-- what is shown of rows of a table
table_shown : (table : TableDef) (read : CheckedRead) (columns : List ColumnDesc) (es : List Entry) (r : ReadEffect) (b : Truth)
    → AllByRecursion (IsOf table.columns read columns) es → is_read_of [] table b read columns ≡ true
    → ◌≡◌ {A = Coded ReadEffect} (if b then Ok (counted (length es)) else behind (limit_in alone read.limit) (λ limit. listed alone read (cut limit (ordered read.order es)))) (Ok r)
    → AreOf columns r.rows
table_shown table read columns es r true all is given =
    let list = (and_true (is_empty read.list) _ is).1 in
    let plain = (and_true (is_plain read) _ list).1 in
    count_shown table.columns read columns (length es) r (and_true (is_filter (around table.columns []) read.filter) (is_count_result columns) plain).1 given
table_shown table read columns es r false all is given =
    let sound = sound_list table.columns read columns
    (is_filter (around table.columns []) read.filter && (is_order table read.order && is_limit (around table.columns []) read.limit)) is in
    rows_shown table.columns read columns sound.0 sound.1 es r all given

-- and where there is no table
bare_shown : (read : CheckedRead) (columns : List ColumnDesc) (es : List Entry) (r : ReadEffect) (b : Truth)
    → AllByRecursion (IsOf [] read columns) es → (not b && is_bare (around [] []) read columns) ≡ true
    → ◌≡◌ {A = Coded ReadEffect} (if b then Ok (counted (length es)) else behind (limit_in alone read.limit) (λ limit. listed alone read (cut limit (ordered read.order es)))) (Ok r)
    → AreOf columns r.rows
bare_shown read columns es r true all is given = absurd (let e : false ≡ true = is in cc)
bare_shown read columns es r false all is given =
    let sound = sound_list [] read columns (is_none read.filter && is_plain read) is in
    rows_shown [] read columns sound.0 sound.1 es r all given

rows_of_stored : (table : TableDef) (read : CheckedRead) (columns : List ColumnDesc) (es : List Entry)
    → AllByRecursion (λ (e : Entry). IsStored (Some table) e.key e.row) es → AllByRecursion (IsOf table.columns read columns) es
rows_of_stored table read columns [] all = tt
rows_of_stored table read columns (e ∷ es) all = let here = all.0 in (here.columns, rows_of_stored table read columns es all.1)

module _ (tables : List TableDef) (view : View) (stored : AreAllStored tables view) (read : CheckedRead) (columns : List ColumnDesc) (r : ReadEffect) where
  from_table : (n : ℕ) (o : Option TableDef) → slice_get tables n ≡ o → is_read_from [] o read columns ≡ true
      → behind (walked (kept alone read.filter) (entries_in view n)) (shown alone read) ≡ Ok r → AreOf columns r.rows
  from_table n None found is given = absurd (let e : false ≡ true = is in cc)
  from_table n (Some table) found is given =
      let one = behind_ok (walked (kept alone read.filter) (entries_in view n)) (shown alone read) r given in
      let here = subst (λ (t : Option TableDef). AllByRecursion (λ (e : Entry). IsStored t e.key e.row) (entries_in view n)) found (all_in tables view n stored) in
      table_shown table read columns one.0 r read.count
      (kept_all table.columns read columns (entries_in view n) one.0 (rows_of_stored table read columns (entries_in view n) here) one.1) is one.2

  from_one : (o : Option ℕ) → is_read_at tables [] o read columns ≡ true
      → behind (walked (kept alone read.filter) (entries_read view o)) (shown alone read) ≡ Ok r → AreOf columns r.rows
  from_one None is given =
      let es : List Entry = entry value.Null no_row ∷ [] in
      let one = behind_ok (walked (kept alone read.filter) es) (shown alone read) r given in
      bare_shown read columns one.0 r read.count (kept_all [] read columns es one.0 (refl, tt) one.1) is one.2
  from_one (Some n) is given = from_table n (slice_get tables n) refl is given

reads_is : (o : Coded ReadEffect) (r : ReadEffect) → made Reads o ≡ Ok (Reads r) → o ≡ Ok r
reads_is (Ok x) r is = cc
reads_is (Err code) r is = absurd (cc)

not_read : {A : Type 0} (o : Coded (List Change)) (r : ReadEffect) → made Writes o ≡ Ok (Reads r) → A
not_read (Ok cs) r is = absurd (cc)
not_read (Err code) r is = absurd (cc)

all_true_is : (columns : List ColumnDesc) (rows : List Row) → AreOf columns rows → list_all (has_columns columns) rows ≡ true
all_true_is columns [] all = refl
all_true_is columns (row ∷ rows) all = both_true (has_columns columns row) (list_all (has_columns columns) rows) all.0 (all_true_is columns rows all.1)

body_read : (tables : List TableDef) (b : CheckedBody) (columns : List ColumnDesc) (view : View) (next : ℤ) (r : ReadEffect) → is_body tables [] b columns ≡ true
    → AreAllStored tables view → given_by alone tables b view next ≡ Ok (Reads r) → AreOf columns r.rows
body_read tables (body.Read read) columns view next r is stored given =
    from_one tables view stored read columns r read.table is (reads_is (read_in alone view read) r given)
body_read tables (body.Insert insert) columns view next r is stored given =
    not_read (insert_in alone view (slice_get tables insert.table) next insert) r given
body_read tables (body.Change change) columns view next r is stored given =
    not_read (change_in alone view (columns_of (slice_get tables change.table)) change) r given
body_read tables (body.Remove remove) columns view next r is stored given = not_read (remove_in alone view remove) r given

pub all_read : (tables : List TableDef) (checked : Checked) (view : View) (next : ℤ) (r : ReadEffect) → is_of tables checked ≡ true → checked.kinds ≡ []
    → AreAllStored tables view → given_by alone tables checked.body view next ≡ Ok (Reads r) → list_all (has_columns checked.columns) r.rows ≡ true
all_read tables checked view next r is bound stored given =
    all_true_is checked.columns r.rows
    (body_read tables checked.body checked.columns view next r (subst (λ (kinds : List ColType). is_body tables kinds checked.body checked.columns ≡ true) bound is)
    stored given)
