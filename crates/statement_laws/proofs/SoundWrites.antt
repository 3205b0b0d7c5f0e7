-- What a check makes of an INSERT, an UPDATE and a DELETE is of the tables.
use Rattle.std.proofs.Common.{◌≡◌, ◌∙◌, ℕ, zero, suc, ◌+◌, ◌<◌, ◌≤◌, List, [], ◌∷◌, ◌++◌, length, map, take, drop, refl, ap, sym, subst, arith}
use Rattle.std.specs.Prelude.{◌&&◌, ◌||◌, ◌==◌, not, nat_lt, Bool as Truth, true, false, Option, Some, None, Result, Ok, Err, IfSome, slice_get, set, unwrap_or, codes, if◌then◌else◌}
use Rattle.std.specs.List.{AllByRecursion, list_all, list_any}
use Rattle.std.proofs.Math.Dec.{eqb_refl}
use Rattle.std.proofs.lemmas.Bool.{eqb-true, lt-ltb}
use Rattle.std.proofs.lemmas.Option.{none-some}
use Rattle.pg_values.specs.declared.col_type.ColType.{ColType}
use Rattle.pg_values.specs.declared.col_type.ColType.TheVariants as kind
use Rattle.schema.specs.declared.catalogue.ColumnDef.{ColumnDef}
use Rattle.schema.specs.declared.catalogue.TableDef.{TableDef}
use Rattle.sql_tree.specs.declared.expr.Expr.{Expr}
use Rattle.sql_tree.specs.declared.statement.Cell.{Cell}
use Rattle.sql_tree.specs.declared.statement.Cell.TheVariants.{Fill as Default, Given}
use Rattle.sql_tree.specs.declared.statement.Delete.{Delete}
use Rattle.sql_tree.specs.declared.statement.Insert.{Insert}
use Rattle.sql_tree.specs.declared.statement.SetItem.{SetItem}
use Rattle.sql_tree.specs.declared.statement.Update.{Update}
use Rattle.sql_tree.specs.Trees.{IsCell, IsDelete, IsInsert, IsRow, IsSet, IsTree, IsUpdate}
use Rattle.typed_sql.specs.declared.asks.Takes.TheVariants.{Like}
use Rattle.typed_sql.specs.declared.typed.TypedExpr.{TypedExpr}
use Rattle.typed_sql.specs.Own.{Scope, over, beside, column_meant}
use Rattle.typed_sql.specs.Places.{asks_bool, asks_column, or_text}
use Rattle.typed_sql.specs.Steps.{Known, Fault, fault, Then, Made, Walk, Each, Told}
use Rattle.typed_sql.specs.Typing.{Typed}
use Rattle.catalogue.specs.declared.checked.TypedCell.{TypedCell}
use Rattle.catalogue.specs.declared.checked.TypedSet.{TypedSet}
use Rattle.catalogue.specs.Statements.{Body, Change, CellAt, CellIn, ColumnsOf, FilterOf, InsertInto, Name, Remove, RowOf, SetOf, change_of, column_at, default_cell, first_columns, first_length, given_cell, insert_of, may_set, named_twice, numbered_from, put_cells, remove_of, set_of, whole_row, wrong_number}
use Rattle.checked_sql.specs.OfCatalogue.{are_apart, are_cells, around, is_body, is_cell, is_change, is_empty, is_filter, is_insert, is_remove, is_set, is_value_of, of_table}
use Rattle.checked_sql.proofs.Kept.{and_true, both_true}
use Rattle.statement_laws.proofs.Keeping.{Meant, Keeps, All, along, gives, fails, followed, made, walk, told}
use Rattle.statement_laws.proofs.SoundLeaves.{column_there, is_true}
use Rattle.statement_laws.proofs.SoundNodes.{Stood, good, names_at}
use Rattle.statement_laws.proofs.SoundTables.{Filled, IsThere, Whole}

abbrev or_none : {A : Type 0} → Result A Fault → Option A
or_none (Ok x) = Some x
or_none (Err e) = None

abbrev or_this : {A : Type 0} → A → Result A Fault → A
or_this a (Ok x) = x
or_this a (Err e) = a

-- the body is of the tables
abbrev pub BodyIs : List TableDef → Meant Body
BodyIs tables final b = is_body tables (map or_text final) b.0 b.1 ≡ true

-- ---- filters

abbrev pub FilterIs : Scope → Meant (Option TypedExpr)
FilterIs scope final filter = is_filter (names_at scope final) filter ≡ true

pub filter_keeps : (scope : Scope) (filter : Option Expr) → IfSome filter IsTree → Keeps (FilterIs scope) (FilterOf scope filter)
filter_keeps scope None tree = gives (FilterIs scope) None (λ final. refl)
filter_keeps scope (Some e) tree = made (Stood scope (Like kind.Bool)) (FilterIs scope) Some (Typed scope e asks_bool) (good scope e tree asks_bool) (λ t final is. is)

-- ---- DELETE

pub remove_keeps : (tables : List TableDef) (parameters : Truth) (delete : Delete) (x : ℕ × TableDef) → IsThere tables x → IsDelete delete
    → Keeps (BodyIs tables) (Remove parameters delete x)
remove_keeps tables parameters delete x there tree =
    made (FilterIs (over parameters x.1)) (BodyIs tables) (remove_of x.0) (FilterOf (over parameters x.1) delete.filter) (filter_keeps (over parameters x.1) delete.filter tree.filter)
    (λ f final is. ap (λ (o : Option TableDef). of_table (is_remove (map or_text final)) o (record { table = x.0; filter = f })) there.0 ∙ is)

-- ---- UPDATE

same_is : (a b : ℕ) → a ≡ b → (a == b) ≡ true
same_is a b is = subst (λ (n : ℕ). (a == n) ≡ true) is (is_true (a == a) (eqb_refl a))

not_same : (a b : ℕ) (t : Truth) → (b == a) ≡ t → (a == b) ≡ false → t ≡ false
not_same a b true is other = let e : b ≡ a = eqb-true b a is in absurd (let f : true ≡ false = sym (same_is a b (sym e)) ∙ other in cc)
not_same a b false is other = refl

-- a column that was not set before
abbrev IsNew : List ℕ → TypedSet → Type 0
IsNew before s = list_any (λ n. n == s.column) before ≡ false

left_false : (a b : Truth) → (a || b) ≡ false → a ≡ false
left_false true b is = is
left_false false b is = refl

right_false : (a b : Truth) → (a || b) ≡ false → b ≡ false
right_false true b is = absurd (let f : true ≡ false = is in cc)
right_false false b is = is

split_any : (before : List ℕ) (column c : ℕ) → list_any (λ n. n == c) (before ++ column ∷ []) ≡ false → (list_any (λ n. n == c) before ≡ false) × ((column == c) ≡ false)
split_any [] column c is = (refl, left_false (column == c) false is)
split_any (b ∷ before) column c is =
    let rest = split_any before column c (right_false (b == c) (list_any (λ n. n == c) (before ++ column ∷ [])) is) in
    (both_false (b == c) (list_any (λ n. n == c) before) (left_false (b == c) (list_any (λ n. n == c) (before ++ column ∷ [])) is) rest.0, rest.1)
  where
    both_false : (a b : Truth) → a ≡ false → b ≡ false → (a || b) ≡ false
    both_false a b x y = ap (λ (t : Truth). t || b) x ∙ y

still_new : (before : List ℕ) (column : ℕ) (sets : List TypedSet) → All (IsNew (before ++ column ∷ [])) sets → All (IsNew before) sets
still_new before column [] all = tt
still_new before column (s ∷ sets) all = ((split_any before column s.column all.0).0, still_new before column sets all.1)

none_again : (before : List ℕ) (column : ℕ) (sets : List TypedSet) → All (IsNew (before ++ column ∷ [])) sets → list_any (λ s. s.column == column) sets ≡ false
none_again before column [] all = refl
none_again before column (s ∷ sets) all =
    ap (λ (t : Truth). t || list_any (λ s. s.column == column) sets) (not_same column s.column (s.column == column) refl (split_any before column s.column all.0).1)
    ∙ none_again before column sets all.1

module _ (parameters : Truth) (x : ℕ × TableDef) where
  abbrev scope_over : Scope
  scope_over = over parameters x.1

  -- a SET of a column that is new
  abbrev SetIs : List ℕ → Meant TypedSet
  SetIs before final s = (is_set (names_at scope_over final) x.1 s ≡ true) × IsNew before s

  -- what is found of its column
  abbrev MaySet : List ℕ → ℕ × ColumnDef → Type 0
  MaySet before c = (slice_get (x.1).columns c.0 ≡ Some c.1) × (not (c.0 == (x.1).key) ≡ true) × (list_any (λ n. n == c.0) before ≡ false)

  may_by : (is_key twice : Truth) (name : List ℕ) (c d : ℕ × ColumnDef)
      → (if is_key then Err (fault (codes "0A000") (codes "update of a key column")) else (if twice then Err (fault (codes "42601") name) else Ok c)) ≡ Ok d
      → (c ≡ d) × (is_key ≡ false) × (twice ≡ false)
  may_by true twice name c d is = absurd (none-some d (ap or_none is))
  may_by false true name c d is = absurd (none-some d (ap or_none is))
  may_by false false name c d is = (ap (or_this c) is, refl, refl)

  may_found : (before : List ℕ) (name : List ℕ) (c d : ℕ × ColumnDef) → slice_get (x.1).columns c.0 ≡ Some c.1 → may_set (x.1).key name before c ≡ Ok d → MaySet before d
  may_found before name c d there is =
      let by = may_by (c.0 == (x.1).key) (list_any (λ n. n == c.0) before) name c d is in
      subst (MaySet before) by.0 (there, ap not by.1, by.2)

  set_keeps : (before : List ℕ) (item : SetItem) → IsSet item → Keeps (SetIs before) (SetOf scope_over (x.1).key before item)
  set_keeps before item tree =
      followed (λ final c. slice_get (x.1).columns c.0 ≡ Some c.1) (SetIs before) (Told (column_meant scope_over None item.column))
      (λ c. Then (Told (may_set (x.1).key item.column before c)) (λ d. Made (set_of d.0) (Typed scope_over item.expr (asks_column (d.1).kind))))
      (told (λ final c. slice_get (x.1).columns c.0 ≡ Some c.1) (column_meant scope_over None item.column) (λ c is final. column_there scope_over None item.column c is))
      (λ c. followed (λ final d. slice_get (x.1).columns c.0 ≡ Some c.1 → MaySet before d) (λ final s. slice_get (x.1).columns c.0 ≡ Some c.1 → SetIs before final s)
      (Told (may_set (x.1).key item.column before c)) (λ d. Made (set_of d.0) (Typed scope_over item.expr (asks_column (d.1).kind)))
      (told (λ final d. slice_get (x.1).columns c.0 ≡ Some c.1 → MaySet before d) (may_set (x.1).key item.column before c) (λ d is final there. may_found before item.column c d there is))
      (λ d. made (Stood scope_over (Like (d.1).kind)) (λ final s. (slice_get (x.1).columns c.0 ≡ Some c.1 → MaySet before d) → slice_get (x.1).columns c.0 ≡ Some c.1 → SetIs before final s)
      (set_of d.0) (Typed scope_over item.expr (asks_column (d.1).kind)) (good scope_over item.expr tree.1 (asks_column (d.1).kind))
      (λ e final is may there.
      let found = may there in (
        both_true (not (d.0 == (x.1).key)) (is_value_of (names_at scope_over final) (slice_get (x.1).columns d.0) e) found.1
            (ap (λ (o : Option ColumnDef). is_value_of (names_at scope_over final) o e) found.0 ∙ is),
        found.2,
      ))))

  -- SETs of columns that are new, none of them twice; as few as the items, if none
  abbrev SetsAre : List ℕ → List SetItem → Meant (List TypedSet)
  SetsAre before items final sets = All (λ s. is_set (names_at scope_over final) x.1 s ≡ true) sets
      × All (IsNew before) sets × (are_apart sets ≡ true) × (is_empty sets ≡ is_empty items)

  sets_keep : (before : List ℕ) (items : List SetItem) → AllByRecursion IsSet items
      → Keeps (SetsAre before items) (Walk (SetOf scope_over (x.1).key) (λ before s. before ++ s.column ∷ []) before items)
  sets_keep before [] trees = gives (SetsAre before []) [] (λ final. (tt, tt, refl, refl))
  sets_keep before (item ∷ items) trees =
      followed (SetIs before) (SetsAre before (item ∷ items)) (SetOf scope_over (x.1).key before item)
      (λ s. Made (λ ss. s ∷ ss) (Walk (SetOf scope_over (x.1).key) (λ before s. before ++ s.column ∷ []) (before ++ s.column ∷ []) items))
      (set_keeps before item trees.0)
      (λ s. made (SetsAre (before ++ s.column ∷ []) items) (λ final ss. SetIs before final s → SetsAre before (item ∷ items) final ss) (λ ss. s ∷ ss)
      (Walk (SetOf scope_over (x.1).key) (λ before s. before ++ s.column ∷ []) (before ++ s.column ∷ []) items)
      (sets_keep (before ++ s.column ∷ []) items trees.1)
      (λ ss final all is. (
        (is.0, all.0),
        (is.1, still_new before s.column ss all.1),
        both_true (not (list_any (λ t. t.column == s.column) ss)) (are_apart ss) (ap not (none_again before s.column ss all.1)) all.2,
        refl,
      )))

all_true : {A : Type 0} (test : A → Truth) (xs : List A) → All (λ x. test x ≡ true) xs → list_all test xs ≡ true
all_true test [] all = refl
all_true test (x ∷ xs) all = both_true (test x) (list_all test xs) all.0 (all_true test xs all.1)

pub some_item : {A : Type 0} (xs : List A) → 1 ≤ length xs → not (is_empty xs) ≡ true
some_item [] one = absurd (omega arith)
some_item (x ∷ xs) one = refl

pub change_keeps : (tables : List TableDef) (parameters : Truth) (update : Update) (x : ℕ × TableDef) → IsThere tables x → IsUpdate update
    → Keeps (BodyIs tables) (Change parameters update x)
change_keeps tables parameters update x there tree =
    followed (SetsAre parameters x [] update.sets) (BodyIs tables) (Walk (SetOf (over parameters x.1) (x.1).key) (λ before s. before ++ s.column ∷ []) [] update.sets)
    (λ sets. Made (change_of x.0 sets) (FilterOf (over parameters x.1) update.filter)) (sets_keep parameters x [] update.sets (tree.sets).1)
    (λ sets. made (FilterIs (over parameters x.1)) (λ final b. SetsAre parameters x [] update.sets final sets → BodyIs tables final b) (change_of x.0 sets) (FilterOf (over parameters x.1) update.filter)
    (filter_keeps (over parameters x.1) update.filter tree.filter)
    (λ f final is all.
    let names = around (x.1).columns (map or_text final) in
    ap (λ (o : Option TableDef). of_table (is_change (map or_text final)) o (record { table = x.0; sets = sets; filter = f })) there.0
    ∙ both_true (not (is_empty sets)) (are_apart sets && (list_all (is_set names x.1) sets && is_filter names f)) (ap not all.3 ∙ some_item update.sets (tree.sets).0)
    (both_true (are_apart sets) (list_all (is_set names x.1) sets && is_filter names f) all.2
    (both_true (list_all (is_set names x.1) sets) (is_filter names f) (all_true (is_set names x.1) sets all.0) is))))

-- ---- INSERT

-- a column that is there
abbrev IsOne : List ColumnDef → ℕ × ColumnDef → Type 0
IsOne columns c = slice_get columns c.0 ≡ Some c.1

drop_at : {A : Type 0} (xs : List A) (i : ℕ) (x : A) → slice_get xs i ≡ Some x → drop i xs ≡ x ∷ drop (suc i) xs
drop_at [] i x is = absurd (none-some x is)
drop_at (y ∷ xs) zero x is = ap (λ (o : Option _). unwrap_or o y ∷ xs) is
drop_at (y ∷ xs) (suc i) x is = drop_at xs i x is

numbered_are : (columns front : List ColumnDef) (n k : ℕ) → ((i : ℕ) (c : ColumnDef) → slice_get columns i ≡ Some c → slice_get front (k + i) ≡ Some c)
    → All (IsOne front) (numbered_from k (take n columns))
numbered_are columns front zero k at = tt
numbered_are [] front (suc n) k at = tt
numbered_are (column ∷ columns) front (suc n) k at =
    let here : slice_get front (k + 0) ≡ Some column = at 0 column refl in
    let same : k + 0 ≡ k = omega arith in (
      subst (λ (m : ℕ). slice_get front m ≡ Some column) same here,
      numbered_are columns front n (suc k) (λ i c is.
          let next : k + suc i ≡ suc k + i = omega arith in
          subst (λ (m : ℕ). slice_get front m ≡ Some c) next (at (suc i) c is)),
    )

twice_by : (b : Truth) (name : List ℕ) (c d : ℕ × ColumnDef) → (if b then Err (fault (codes "42701") name) else Ok c) ≡ Ok d → c ≡ d
twice_by true name c d is = absurd (none-some d (ap or_none is))
twice_by false name c d is = ap (or_this c) is

module _ (parameters : Truth) (x : ℕ × TableDef) where
  name_keeps : (before : List ℕ) (name : List ℕ) → Keeps (λ final c. IsOne (x.1).columns c) (Name (over parameters x.1) before name)
  name_keeps before name =
      followed (λ final c. IsOne (x.1).columns c) (λ final c. IsOne (x.1).columns c) (Told (column_meant (over parameters x.1) None name)) (λ c. Told (named_twice name before c))
      (told (λ final c. IsOne (x.1).columns c) (column_meant (over parameters x.1) None name) (λ c is final. column_there (over parameters x.1) None name c is))
      (λ c. told (λ final d. IsOne (x.1).columns c → IsOne (x.1).columns d) (named_twice name before c)
      (λ d is final one. subst (IsOne (x.1).columns) (twice_by (list_any (λ n. n == c.0) before) name c d is) one))

  names_keep : (names : List (List ℕ)) → All (λ name. (before : List ℕ) → Keeps (λ final c. IsOne (x.1).columns c) (Name (over parameters x.1) before name)) names
  names_keep [] = tt
  names_keep (name ∷ names) = (λ before. name_keeps before name, names_keep names)

  columns_keep : (insert : Insert) (columns : Option (List (List ℕ))) → Keeps (λ final given. All (IsOne (x.1).columns) given) (ColumnsOf (over parameters x.1) (x.1).columns insert columns)
  columns_keep insert None =
      gives (λ final given. All (IsOne (x.1).columns) given) (first_columns (x.1).columns insert.rows)
      (λ final. numbered_are (x.1).columns (x.1).columns (first_length insert.rows) 0 (λ i c is. let same : 0 + i ≡ i = omega arith in subst (λ (m : ℕ). slice_get (x.1).columns m ≡ Some c) (sym same) is))
  columns_keep insert (Some names) =
      walk (λ final c. IsOne (x.1).columns c) (Name (over parameters x.1)) (λ before c. before ++ c.0 ∷ []) names (names_keep names) []

  -- ---- cells

  abbrev cells_scope : Scope
  cells_scope = beside parameters x.1

  -- a cell for each of these columns, as far as there are cells
  abbrev AreFor : List ColType → List (ℕ × ColumnDef) → List TypedCell → Type 0
  AreFor kinds given [] = Unit {0}
  AreFor kinds [] (c ∷ cells) = ⊥
  AreFor kinds (g ∷ given) (c ∷ cells) = (Filled g.1 → is_cell kinds g.1 c ≡ true) × AreFor kinds given cells

  abbrev CellIs : ColumnDef → Meant TypedCell
  CellIs column final c = Filled column → is_cell (map or_text final) column c ≡ true

  cell_keeps : (column : ColumnDef) (c : Cell) → IsCell c → Keeps (CellIs column) (CellIn cells_scope column c)
  cell_keeps column Default tree = gives (CellIs column) (default_cell column) (λ final filled. filled.cell (map or_text final))
  cell_keeps column (Given e) tree =
      made (Stood cells_scope (Like column.kind)) (CellIs column) given_cell (Typed cells_scope e (asks_column column.kind)) (good cells_scope e tree (asks_column column.kind)) (λ t final is filled. is)

  -- a cell at a place
  abbrev CellAtIs : List (ℕ × ColumnDef) → ℕ → Meant TypedCell
  CellAtIs given at final c = (g : ℕ × ColumnDef) × (slice_get given at ≡ Some g) × CellIs g.1 final c

  cell_at_keeps : (given : List (ℕ × ColumnDef)) (at : ℕ) (found : Option (ℕ × ColumnDef)) (c : Cell) → slice_get given at ≡ found → IsCell c
      → Keeps (CellAtIs given at) (CellAt cells_scope (column_at found) c)
  cell_at_keeps given at None c is tree = fails (CellAtIs given at) wrong_number
  cell_at_keeps given at (Some g) c is tree = along (CellIs g.1) (CellAtIs given at) (CellIn cells_scope g.1 c) (cell_keeps g.1 c tree) (λ t final cell. (g, is, cell))

  cells_keep : (given : List (ℕ × ColumnDef)) (at : ℕ) (row : List Cell) → AllByRecursion IsCell row
      → Keeps (λ final cells. AreFor (map or_text final) (drop at given) cells)
      (Walk (λ at c. CellAt cells_scope (column_at (slice_get given at)) c) (λ at c. suc at) at row)
  cells_keep given at [] trees = gives (λ final cells. AreFor (map or_text final) (drop at given) cells) [] (λ final. tt)
  cells_keep given at (c ∷ row) trees =
      followed (CellAtIs given at) (λ final cells. AreFor (map or_text final) (drop at given) cells) (CellAt cells_scope (column_at (slice_get given at)) c)
      (λ t. Made (λ ts. t ∷ ts) (Walk (λ at c. CellAt cells_scope (column_at (slice_get given at)) c) (λ at c. suc at) (suc at) row))
      (cell_at_keeps given at (slice_get given at) c refl trees.0)
      (λ t. made (λ final ts. AreFor (map or_text final) (drop (suc at) given) ts) (λ final ts. CellAtIs given at final t → AreFor (map or_text final) (drop at given) ts)
      (λ ts. t ∷ ts) (Walk (λ at c. CellAt cells_scope (column_at (slice_get given at)) c) (λ at c. suc at) (suc at) row) (cells_keep given (suc at) row trees.1)
      (λ ts final rest is. subst (λ (gs : List (ℕ × ColumnDef)). AreFor (map or_text final) gs (t ∷ ts)) (sym (drop_at given at is.0 is.1)) (is.2, rest)))

  -- ---- rows

  all_at : {A : Type 0} (P : A → Type 0) (xs : List A) (i : ℕ) (y : A) → All P xs → slice_get xs i ≡ Some y → P y
  all_at P [] i y all is = absurd (none-some y is)
  all_at P (z ∷ xs) zero y all is = subst P (ap (λ (o : Option _). unwrap_or o z) is) all.0
  all_at P (z ∷ xs) (suc i) y all is = all_at P xs i y all.1 is

  set_are : (kinds : List ColType) (columns : List ColumnDef) (row : List TypedCell) (i : ℕ) (column : ColumnDef) (c : TypedCell) → are_cells kinds columns row ≡ true
      → slice_get columns i ≡ Some column → is_cell kinds column c ≡ true → are_cells kinds columns (set row i c) ≡ true
  set_are kinds [] row i column c are there is = absurd (none-some column there)
  set_are kinds (k ∷ columns) [] i column c are there is = absurd (let f : false ≡ true = are in cc)
  set_are kinds (k ∷ columns) (r ∷ row) zero column c are there is =
      let both = and_true (is_cell kinds k r) (are_cells kinds columns row) are in
      both_true (is_cell kinds k c) (are_cells kinds columns row) (ap (λ (o : Option ColumnDef). is_cell kinds (unwrap_or o k) c) there ∙ is) both.1
  set_are kinds (k ∷ columns) (r ∷ row) (suc i) column c are there is =
      let both = and_true (is_cell kinds k r) (are_cells kinds columns row) are in
      both_true (is_cell kinds k r) (are_cells kinds columns (set row i c)) both.0 (set_are kinds columns row i column c both.1 there is)

  put_are : (kinds : List ColType) (columns : List ColumnDef) (given : List (ℕ × ColumnDef)) (cells row : List TypedCell) → All Filled columns → All (IsOne columns) given
      → AreFor kinds given cells → are_cells kinds columns row ≡ true → are_cells kinds columns (put_cells given cells row) ≡ true
  put_are kinds columns [] cells row filled ones for are = are
  put_are kinds columns (g ∷ given) [] row filled ones for are = are
  put_are kinds columns (g ∷ given) (c ∷ cells) row filled ones for are =
      put_are kinds columns given cells (set row g.0 c) filled ones.1 for.1
      (set_are kinds columns row g.0 g.1 c are ones.0 (for.0 (all_at Filled columns g.0 g.1 filled ones.0)))

  defaults_are : (kinds : List ColType) (columns : List ColumnDef) → All Filled columns → are_cells kinds columns (map default_cell columns) ≡ true
  defaults_are kinds [] all = refl
  defaults_are kinds (column ∷ columns) all =
      both_true (is_cell kinds column (default_cell column)) (are_cells kinds columns (map default_cell columns)) ((all.0).cell kinds) (defaults_are kinds columns all.1)

  whole_by : (b : Truth) (made row : List TypedCell) → (if b then Ok made else Err wrong_number) ≡ Ok row → made ≡ row
  whole_by true made row is = ap (λ (r : Result (List TypedCell) Fault). unwrap_or (or_none r) made) is
  whole_by false made row is = absurd (none-some row (ap or_none is))

  -- a row has a cell for each column, where the columns that are given are there
  abbrev RowIs : List (ℕ × ColumnDef) → Meant (List TypedCell)
  RowIs given final row = All (IsOne (x.1).columns) given → are_cells (map or_text final) (x.1).columns row ≡ true

  row_keeps : Whole x.1 → (given : List (ℕ × ColumnDef)) (row : List Cell) → AllByRecursion IsCell row → Keeps (RowIs given) (RowOf cells_scope (x.1).columns given row)
  row_keeps whole given row trees =
      followed (λ final cells. AreFor (map or_text final) given cells) (RowIs given) (Walk (λ at c. CellAt cells_scope (column_at (slice_get given at)) c) (λ at c. suc at) 0 row)
      (λ cells. Told (whole_row (x.1).columns given cells)) (cells_keep given 0 row trees)
      (λ cells. told (λ final made. AreFor (map or_text final) given cells → RowIs given final made) (whole_row (x.1).columns given cells)
      (λ made is final for ones.
      let put = put_cells given cells (map default_cell (x.1).columns) in
      ap (are_cells (map or_text final) (x.1).columns) (sym (whole_by (length cells == length given) put made is))
      ∙ put_are (map or_text final) (x.1).columns given cells (map default_cell (x.1).columns) whole.columns ones for (defaults_are (map or_text final) (x.1).columns whole.columns)))

  rows_keep : Whole x.1 → (given : List (ℕ × ColumnDef)) (rows : List (List Cell)) → AllByRecursion IsRow rows
      → Keeps (λ final made. All (RowIs given final) made × (length made ≡ length rows)) (Walk {S = Unit {0}} (λ s row. RowOf cells_scope (x.1).columns given row) (λ s made. s) tt rows)
  rows_keep whole given [] trees = gives (λ final made. All (RowIs given final) made × (length made ≡ 0)) [] (λ final. (tt, refl))
  rows_keep whole given (row ∷ rows) trees =
      followed (RowIs given) (λ final made. All (RowIs given final) made × (length made ≡ suc (length rows))) (RowOf cells_scope (x.1).columns given row)
      (λ first. Made (λ others. first ∷ others) (Walk {S = Unit {0}} (λ s row. RowOf cells_scope (x.1).columns given row) (λ s made. s) tt rows))
      (row_keeps whole given row (trees.0).1)
      (λ first. made (λ final others. All (RowIs given final) others × (length others ≡ length rows))
      (λ final made. RowIs given final first → All (RowIs given final) made × (length made ≡ suc (length rows))) (λ others. first ∷ others)
      (Walk {S = Unit {0}} (λ s row. RowOf cells_scope (x.1).columns given row) (λ s made. s) tt rows) (rows_keep whole given rows trees.1)
      (λ others final all is. ((is, all.0), ap suc all.1)))

  rows_true : (given : List (ℕ × ColumnDef)) (final : Known) (rows : List (List TypedCell)) → All (IsOne (x.1).columns) given → All (RowIs given final) rows
      → list_all (are_cells (map or_text final) (x.1).columns) rows ≡ true
  rows_true given final [] ones all = refl
  rows_true given final (row ∷ rows) ones all =
      both_true (are_cells (map or_text final) (x.1).columns row) (list_all (are_cells (map or_text final) (x.1).columns) rows) (all.0 ones) (rows_true given final rows ones all.1)

pub insert_keeps : (tables : List TableDef) (parameters : Truth) (insert : Insert) (x : ℕ × TableDef) → IsThere tables x → IsInsert insert → length insert.rows < 4294967296
    → Keeps (BodyIs tables) (InsertInto parameters insert x)
insert_keeps tables parameters insert x there tree few =
    followed (λ final given. All (IsOne (x.1).columns) given) (BodyIs tables) (ColumnsOf (over parameters x.1) (x.1).columns insert insert.columns)
    (λ given. Made (insert_of x.0) (Each (RowOf (beside parameters x.1) (x.1).columns given) insert.rows))
    (columns_keep parameters x insert insert.columns)
    (λ given. made (λ final rows. All (RowIs parameters x given final) rows × (length rows ≡ length insert.rows)) (λ final b. All (IsOne (x.1).columns) given → BodyIs tables final b)
    (insert_of x.0) (Each (RowOf (beside parameters x.1) (x.1).columns given) insert.rows) (rows_keep parameters x there.1 given insert.rows (tree.rows).1)
    (λ rows final all ones.
    ap (λ (o : Option TableDef). of_table (is_insert (map or_text final)) o (record { table = x.0; rows = rows })) there.0
    ∙ both_true (not (is_empty rows)) (nat_lt (length rows) 4294967296 && list_all (are_cells (map or_text final) (x.1).columns) rows)
    (some_item rows (subst (λ (n : ℕ). 1 ≤ n) (sym all.1) (tree.rows).0))
    (both_true (nat_lt (length rows) 4294967296) (list_all (are_cells (map or_text final) (x.1).columns) rows)
    (lt-ltb (length rows) 4294967296 (subst (λ (n : ℕ). n < 4294967296) (sym all.1) few)) (rows_true parameters x given final rows ones all.0))))
