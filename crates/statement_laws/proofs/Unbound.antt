-- A check of a text, in which no parameter may stand, leaves what is known of the parameters as it was.
use Rattle.std.proofs.Common.{◌≡◌, ◌∙◌, ℕ, zero, suc, ℤ, List, [], ◌∷◌, ◌++◌, map, refl, ap, sym, subst, inl, inr, ◌⊎◌}
use Rattle.std.specs.Prelude.{Bool as Truth, true, false, Option, Some, None, Result, Ok, Err, codes, is_some, slice_get}
use Rattle.pg_values.specs.declared.col_type.ColType.{ColType}
use Rattle.pg_values.specs.declared.col_type.ColType.TheVariants as kind
use Rattle.pg_values.specs.declared.value.Value.{Value}
use Rattle.pg_values.specs.declared.value.Value.TheVariants as value
use Rattle.pg_values.specs.Answers.{ReadsText, RefusesText}
use Rattle.schema.specs.declared.catalogue.ColumnDef.{ColumnDef}
use Rattle.schema.specs.declared.catalogue.TableDef.{TableDef}
use Rattle.sql_tree.specs.declared.expr.Comparison.{Comparison}
use Rattle.sql_tree.specs.declared.expr.Expr.{Expr, roll-Expr, map-Expr, out-roll-Expr}
use Rattle.sql_tree.specs.declared.expr.Expr.TheOpen.{Expr-F, ProductPart-F, SumPart-F}
use Rattle.sql_tree.specs.declared.expr.Expr.TheFolds.{ind-Expr}
use Rattle.sql_tree.specs.declared.expr.SumPart.{SumPart}
use Rattle.sql_tree.specs.declared.expr.ProductPart.{ProductPart}
use Rattle.sql_tree.specs.declared.statement.Cell.{Cell}
use Rattle.sql_tree.specs.declared.statement.Cell.TheVariants.{Fill as Default, Given}
use Rattle.sql_tree.specs.declared.statement.Delete.{Delete}
use Rattle.sql_tree.specs.declared.statement.Insert.{Insert}
use Rattle.sql_tree.specs.declared.statement.OrderItem.{OrderItem}
use Rattle.sql_tree.specs.declared.statement.Select.{Select}
use Rattle.sql_tree.specs.declared.statement.SelectItem.{SelectItem}
use Rattle.sql_tree.specs.declared.statement.SelectList.{SelectList}
use Rattle.sql_tree.specs.declared.statement.SelectList.TheVariants.{Star, Count, Items}
use Rattle.sql_tree.specs.declared.statement.SetItem.{SetItem}
use Rattle.sql_tree.specs.declared.statement.Statement.{Statement}
use Rattle.sql_tree.specs.declared.statement.Statement.TheVariants as statement
use Rattle.sql_tree.specs.declared.statement.Update.{Update}
use Rattle.typed_sql.specs.declared.asks.Asks.{Asks}
use Rattle.typed_sql.specs.declared.typed.TypedExpr.{TypedExpr}
use Rattle.typed_sql.specs.declared.typed.TypedForm.{TypedForm}
use Rattle.typed_sql.specs.declared.typed.TypedForm.TheVariants as form
use Rattle.typed_sql.specs.declared.typed.TypedSumPart.{TypedSumPart}
use Rattle.typed_sql.specs.declared.typed.TypedProductPart.{TypedProductPart}
use Rattle.typed_sql.specs.Places.{asks_beside, asks_bool, asks_column, asks_entry, asks_like, asks_limit, asks_nothing, asks_number, asks_text, number_kind, or_text}
use Rattle.typed_sql.specs.Own.{Scope, alone, beside, column_meant, first_kind, joined_kind, over, own, own_kind}
use Rattle.typed_sql.specs.Steps.{Known, Fault, fault, Answer, Step, Behind, Gives, Fails, Then, Made, Walk, Each, Maybe, Told}
use Rattle.typed_sql.specs.Typing.{Place, Typed, Layer, Form, Fits, Compared, ComparedWith, AmongBeside, EntriesOf, ChainBeside, Parts, Others, PartOf, behind_part, Negative, Parameter, String, TextForm, number_of, column_expr, literal, typed, truth, moment, own_of_first, summand_of, factor_of}
use Rattle.typed_sql.specs.Meaning.{under}
use Rattle.typed_sql.proofs.Forms.{typed_is}
use Rattle.catalogue.specs.declared.checked.Checked.{Checked}
use Rattle.catalogue.specs.declared.checked.TypedCell.{TypedCell}
use Rattle.catalogue.specs.declared.checked.TypedSet.{TypedSet}
use Rattle.catalogue.specs.Checking.{AnswersCheck, BodyBehind}
use Rattle.catalogue.specs.Statements.{Body, BodyOf, CellAt, CellIn, Change, ColumnsOf, EndsOf, FilterOf, InsertInto, ItemOf, ListOf, Name, Never, OrderOf, ReadIn, Remove, RowOf, SelectOf, SetOf, Uncounted, bare_read, change_of, column_at, columns_from, default_cell, first_columns, given_cell, has_room, insert_of, is_count, is_there, known_first, may_set, named_twice, order_key, read_of, remove_of, set_of, table_named, uncounted, whole_row, with_key, wrong_number}

-- ---- steps

abbrev pub Same : {A : Type 0} → Known → Answer A → Type 0
Same known (Ok x) = x.1 ≡ known
Same known (Err e) = Unit {0}

abbrev pub Stays : {A : Type 0} → Step A → Type 0
Stays {A} step = (known : Known) (answer : Answer A) → step known answer → Same known answer

gives : {A : Type 0} (a : A) → Stays (Gives a)
gives a known answer is = subst (Same known) (sym is) refl

fails : {A : Type 0} (e : Fault) → Stays {A = A} (Fails e)
fails e known answer is = subst (Same known) (sym is) tt

told : {A : Type 0} (found : Result A Fault) → Stays (Told found)
told (Ok a) = gives a
told (Err e) = fails e

turned : {B : Type 0} (known mid : Known) (answer : Answer B) → mid ≡ known → Same mid answer → Same known answer
turned known mid (Ok y) is same = same ∙ is
turned known mid (Err e) is same = tt

module _ {A B : Type 0} (step : Step A) (next : A → Step B) where
  either : Stays step → ((a : A) → Stays (next a)) → (known : Known) (first : Answer A) (answer : Answer B) → step known first → Behind next first answer → Same known answer
  either stays goes known (Ok x) answer took on = turned known x.1 answer (stays known (Ok x) took) (goes x.0 x.1 answer on)
  either stays goes known (Err e) answer took on = subst (Same known) (sym on) tt

  then : Stays step → ((a : A) → Stays (next a)) → Stays (Then step next)
  then stays goes known answer took = either stays goes known took.0 answer took.1 took.2

made : {A B : Type 0} (make : A → B) (step : Step A) → Stays step → Stays (Made make step)
made make step stays = then step (λ a. Gives (make a)) stays (λ a. gives (make a))

-- of each
abbrev All : {A : Type 0} → (A → Type 0) → List A → Type 0
All Is [] = Unit {0}
All Is (x ∷ xs) = Is x × All Is xs

walk : {S A B : Type 0} (step : S → A → Step B) (next : S → B → S) (xs : List A) → All (λ x. (s : S) → Stays (step s x)) xs → (s : S) → Stays (Walk step next s xs)
walk step next [] each s = gives []
walk step next (x ∷ xs) each s =
    then (step s x) (λ y. Made (λ ys. y ∷ ys) (Walk step next (next s y) xs)) (each.0 s) (λ y. made (λ ys. y ∷ ys) (Walk step next (next s y) xs) (walk step next xs each.1 (next s y)))

each_step : {A B : Type 0} (step : A → Step B) (xs : List A) → All (λ x. Stays (step x)) xs → Stays (Each step xs)
each_step {A = A} step xs each = walk {S = Unit {0}} (λ s x. step x) (λ s y. s) xs (always xs each) tt
  where
    always : (xs : List A) → All (λ x. Stays (step x)) xs → All (λ x. (s : Unit {0}) → Stays (step x)) xs
    always [] each = tt
    always (x ∷ xs) each = (λ s. each.0, always xs each.1)

all_of : {A : Type 0} (Is : A → Type 0) → ((a : A) → Is a) → (xs : List A) → All Is xs
all_of Is is [] = tt
all_of Is is (x ∷ xs) = (is x, all_of Is is xs)

maybe : {A B : Type 0} (step : A → Step B) (o : Option A) → ((a : A) → Stays (step a)) → Stays (Maybe step o)
maybe step None stays = gives None
maybe step (Some x) stays = made Some (step x) (stays x)

-- ---- expressions

module _ (scope : Scope) (none : scope.parameters ≡ false) where
  abbrev pub Calm : Expr → Type 0
  Calm e = (asks : Asks) → Stays (Typed scope e asks)

  text_at : (k : ColType) (text : List ℕ) (known : Known) (answer : Answer TypedExpr)
      → ((read : Value) × ReadsText k text read × (answer ≡ Ok (literal k read, known))) ⊎ ((code : List ℕ) × RefusesText k text code × (answer ≡ Err (fault code [])))
      → Same known answer
  text_at k text known answer (inl x) = subst (Same known) (sym x.2) refl
  text_at k text known answer (inr x) = subst (Same known) (sym x.2) tt

  text_stays : (k : ColType) (text : List ℕ) → Stays (TextForm k text)
  text_stays k text known answer is = text_at k text known answer is

  string_stays : (leaf : ColType) (text : List ℕ) → Stays (String leaf text)
  string_stays kind.Text text = gives (literal kind.Text (value.Text text))
  string_stays kind.Bool text = text_stays kind.Bool text
  string_stays kind.Int4 text = text_stays kind.Int4 text
  string_stays kind.Int8 text = text_stays kind.Int8 text
  string_stays kind.Moment text = text_stays kind.Moment text

  -- no parameter may stand
  parameter_stays : (leaf : ColType) (n : ℕ) → Stays (Parameter scope.parameters leaf n)
  parameter_stays leaf n = subst (λ (may : Truth). Stays (Parameter may leaf n)) (sym none) (λ known answer is. fails (fault (codes "42P02") []) known answer is)

  rolled : (d : Expr-F Expr ProductPart SumPart) → Typed scope (roll-Expr d) ≡ Layer scope (under scope) d
  rolled d = typed_is scope (roll-Expr d) ∙ ap (λ (x : Expr-F Expr ProductPart SumPart). Layer scope (under scope) x) (out-roll-Expr d)

  layer_stays : (d : Expr-F Expr ProductPart SumPart) → ((leaf : ColType) → Stays (Form scope (under scope) d leaf)) → Calm (roll-Expr d)
  layer_stays d form asks =
      subst (λ (at : Place). Stays (at asks)) (sym (rolled d)) (then (Form scope (under scope) d asks.leaf) (Fits asks) (form asks.leaf) (λ e. told _))

  others_stay : {P Q : Type 0} (at : P → Place) (make : P → TypedExpr → Q) (kind_of : Q → ColType) (form : TypedExpr → List Q → TypedForm) (ps : List P) → All (λ p. (asks : Asks) → Stays (at p asks)) ps → (a : TypedExpr) → Stays (Parts at make kind_of form ps a)
  others_stay at make kind_of form ps all a =
      made (λ x. typed x.0 (form a x.1)) (Others at make kind_of a.kind ps)
      (made _ (Walk (PartOf at make) (behind_part kind_of) a.kind ps) (walk (PartOf at make) (behind_part kind_of) ps (each_part ps all) a.kind))
    where
      each_part : (ps : List _) → All (λ p. (asks : Asks) → Stays (at p asks)) ps → All (λ p. (kind : ColType) → Stays (PartOf at make kind p)) ps
      each_part [] all = tt
      each_part (p ∷ ps) all = (λ kind. made (make p) (at p (asks_number (Some kind))) (all.0 (asks_number (Some kind))), each_part ps all.1)

  negative_stays : (least : Truth) (e : Expr) → Calm e → Stays (Negative least (Typed scope) e)
  negative_stays true e calm = gives _
  negative_stays false e calm = made _ (Typed scope e (asks_number None)) (calm (asks_number None))

  module _ {X P S : Type 0} (e_of : X → Expr) (p_of : P → ProductPart) (s_of : S → SumPart) (ex : (x : X) → Calm (e_of x)) (py : (p : P) → Calm (p_of p).part) (sz : (s : S) → Calm (s_of s).part) where
    calms : (xs : List X) (asks : Asks) → All (λ e. Stays (Typed scope e asks)) (map e_of xs)
    calms [] asks = tt
    calms (x ∷ xs) asks = (ex x asks, calms xs asks)

    calm_summands : (ss : List S) → All (λ s. (asks : Asks) → Stays (Typed scope s.part asks)) (map s_of ss)
    calm_summands [] = tt
    calm_summands (s ∷ ss) = (sz s, calm_summands ss)

    calm_factors : (ps : List P) → All (λ p. (asks : Asks) → Stays (Typed scope p.part asks)) (map p_of ps)
    calm_factors [] = tt
    calm_factors (p ∷ ps) = (py p, calm_factors ps)

    form_stays : (y : Expr-F X P S) (leaf : ColType) → Stays (Form scope (under scope) (map-Expr X P S Expr ProductPart SumPart e_of p_of s_of y) leaf)
    form_stays (Expr-F.Or parts) leaf = made _ (Each (λ part. Typed scope part asks_bool) (map e_of parts)) (each_step (λ part. Typed scope part asks_bool) (map e_of parts) (calms parts asks_bool))
    form_stays (Expr-F.And parts) leaf = made _ (Each (λ part. Typed scope part asks_bool) (map e_of parts)) (each_step (λ part. Typed scope part asks_bool) (map e_of parts) (calms parts asks_bool))
    form_stays (Expr-F.Not x) leaf = made _ (Typed scope (e_of x) asks_bool) (ex x asks_bool)
    form_stays (Expr-F.IsNull x tests) leaf = made _ (Typed scope (e_of x) asks_nothing) (ex x asks_nothing)
    form_stays (Expr-F.Compare how x y) leaf = λ known.
        then (Typed scope (e_of x) (asks_beside (own_kind scope known (e_of y)))) (ComparedWith (Typed scope) how (e_of y)) (ex x (asks_beside (own_kind scope known (e_of y))))
        (λ a. made (λ b. truth (form.Compare how a b)) (Typed scope (e_of y) (asks_like a.kind)) (ex y (asks_like a.kind))) known
    form_stays (Expr-F.Member x negated parts) leaf = λ known.
        let first = first_kind (own_kind scope known (e_of x) ∷ map (own_kind scope known) (map e_of parts)) in
        then (Typed scope (e_of x) (asks_beside first)) (EntriesOf (Typed scope) negated first (map e_of parts)) (ex x (asks_beside first))
        (λ a. made (λ bs. truth (form.Member a negated bs)) (Each (λ entry. Typed scope entry (asks_entry first a.kind)) (map e_of parts))
        (each_step (λ entry. Typed scope entry (asks_entry first a.kind)) (map e_of parts) (calms parts (asks_entry first a.kind)))) known
    form_stays (Expr-F.Concat parts) leaf = made _ (Each (λ part. Typed scope part asks_text) (map e_of parts)) (each_step (λ part. Typed scope part asks_text) (map e_of parts) (calms parts asks_text))
    form_stays (Expr-F.Sum x parts) leaf = λ known.
        let next = own_of_first (λ (s : SumPart). own_kind scope known s.part) (map s_of parts) in
        then (Typed scope (e_of x) (asks_number next)) (Parts (λ (s : SumPart). Typed scope s.part) summand_of (λ (q : TypedSumPart). q.part.kind) (λ e qs. form.Sum e qs) (map s_of parts)) (ex x (asks_number next))
        (others_stay (λ (s : SumPart). Typed scope s.part) summand_of (λ (q : TypedSumPart). q.part.kind) (λ e qs. form.Sum e qs) (map s_of parts) (calm_summands parts)) known
    form_stays (Expr-F.Product x parts) leaf = λ known.
        let next = own_of_first (λ (p : ProductPart). own_kind scope known p.part) (map p_of parts) in
        then (Typed scope (e_of x) (asks_number next)) (Parts (λ (p : ProductPart). Typed scope p.part) factor_of (λ (q : TypedProductPart). q.part.kind) (λ e qs. form.Product e qs) (map p_of parts)) (ex x (asks_number next))
        (others_stay (λ (p : ProductPart). Typed scope p.part) factor_of (λ (q : TypedProductPart). q.part.kind) (λ e qs. form.Product e qs) (map p_of parts) (calm_factors parts)) known
    form_stays (Expr-F.Minus x) leaf = negative_stays (own scope [] (e_of x)).least_int4 (e_of x) (ex x)
    form_stays (Expr-F.Int n) leaf = gives (number_of (number_kind n) n)
    form_stays (Expr-F.Str text) leaf = string_stays leaf text
    form_stays (Expr-F.Bool given) leaf = gives (literal kind.Bool (value.Bool given))
    form_stays Expr-F.Null leaf = gives (literal leaf value.Null)
    form_stays (Expr-F.Param n) leaf = parameter_stays leaf n
    form_stays (Expr-F.Column qualifier name) leaf = made column_expr (Told (column_meant scope qualifier name)) (told (column_meant scope qualifier name))
    form_stays Expr-F.CurrentTimestamp leaf = gives (moment form.CurrentTimestamp)
    form_stays Expr-F.Now leaf = gives (moment form.Now)
    form_stays Expr-F.TransactionTimestamp leaf = gives (moment form.TransactionTimestamp)
    form_stays (Expr-F.Moment text) leaf = text_stays kind.Moment text

  from_layer : {X P S : Type 0} (y : Expr-F X P S) (e_of : X → Expr) (p_of : P → ProductPart) (s_of : S → SumPart)
      → ((x : X) → Calm (e_of x)) → ((p : P) → Calm (p_of p).part) → ((s : S) → Calm (s_of s).part) → Calm (roll-Expr (map-Expr X P S Expr ProductPart SumPart e_of p_of s_of y))
  from_layer {X} {P} {S} y e_of p_of s_of ex py sz = layer_stays (map-Expr X P S Expr ProductPart SumPart e_of p_of s_of y) (form_stays e_of p_of s_of ex py sz y)

  pub calm : (e : Expr) → Calm e
  calm = ind-Expr Calm (λ p. Calm p.part) (λ s. Calm s.part)
      (λ x y is. subst (λ (z : Expr-F Expr ProductPart SumPart). Calm (roll-Expr z)) is (from_layer y (λ e. e.0) (λ p. p.0) (λ s. s.0) (λ e. e.1) (λ p. p.1) (λ s. s.1)))
      (λ x y is. subst (λ (z : ProductPart-F Expr ProductPart SumPart). Calm z.part) is y.part.1)
      (λ x y is. subst (λ (z : SumPart-F Expr ProductPart SumPart). Calm z.part) is y.part.1)

  -- ---- parts of statements

  filter_stays : (filter : Option Expr) → Stays (FilterOf scope filter)
  filter_stays filter = maybe (λ e. Typed scope e asks_bool) filter (λ e. calm e asks_bool)

  list_stays : (columns : List ColumnDef) (list : SelectList) → Stays (ListOf scope columns list)
  list_stays columns Star = gives (columns_from 0 columns)
  list_stays columns Count = gives []
  list_stays columns (Items items) =
      walk (ItemOf scope) (λ before e. suc before) items
      (all_of (λ item. (before : ℕ) → Stays (ItemOf scope before item)) (λ item before. then (Told (has_room before)) (λ room. Typed scope item.expr asks_nothing) (told (has_room before)) (λ room. calm item.expr asks_nothing)) items) 0

  uncounted_stays : {A : Type 0} (count there : Truth) (step : Step A) → Stays step → Stays (Uncounted count there step)
  uncounted_stays count there step stays = then (Told (uncounted count there)) (λ free. step) (told (uncounted count there)) (λ free. stays)

  ends_stay : (count : Truth) (select : Select) (table : TableDef) → Stays (EndsOf count scope select table)
  ends_stay count select table =
      then (Uncounted count (is_there select.order) (Each (OrderOf scope) select.order)) _
      (uncounted_stays count (is_there select.order) (Each (OrderOf scope) select.order) (each_step (OrderOf scope) select.order (all_of (λ item. Stays (OrderOf scope item)) (λ item. made (order_key item.falling) (Told (column_meant scope item.qualifier item.column)) (told (column_meant scope item.qualifier item.column))) select.order)))
      (λ order. then (Uncounted count (is_some select.limit) (Maybe (λ e. Typed scope e asks_limit) select.limit)) _
      (uncounted_stays count (is_some select.limit) (Maybe (λ e. Typed scope e asks_limit) select.limit) (maybe (λ e. Typed scope e asks_limit) select.limit (λ e. calm e asks_limit)))
      (λ limit. uncounted_stays count select.for_update (Gives (with_key count table order, limit)) (gives (with_key count table order, limit))))

  read_stays : (select : Select) (x : ℕ × TableDef) → Stays (ReadIn scope select x)
  read_stays select x =
      then (ListOf scope (x.1).columns select.list) _ (list_stays (x.1).columns select.list)
      (λ list. then (FilterOf scope select.filter) _ (filter_stays select.filter)
      (λ filter. made (read_of x select list filter) (EndsOf (is_count select.list) scope select x.1) (ends_stay (is_count select.list) select x.1)))

  cell_stays : (column : ColumnDef) (c : Cell) → Stays (CellIn scope column c)
  cell_stays column Default = gives (default_cell column)
  cell_stays column (Given e) = made given_cell (Typed scope e (asks_column column.kind)) (calm e (asks_column column.kind))

  cell_at_stays : (column : Option ColumnDef) (c : Cell) → Stays (CellAt scope column c)
  cell_at_stays None c = told (Err wrong_number)
  cell_at_stays (Some column) c = cell_stays column c

  row_stays : (columns : List ColumnDef) (given : List (ℕ × ColumnDef)) (row : List Cell) → Stays (RowOf scope columns given row)
  row_stays columns given row =
      then (Walk (λ at c. CellAt scope (column_at (slice_get given at)) c) (λ at c. suc at) 0 row) (λ cells. Told (whole_row columns given cells))
      (walk (λ at c. CellAt scope (column_at (slice_get given at)) c) (λ at c. suc at) row (all_of (λ c. (at : ℕ) → Stays (CellAt scope (column_at (slice_get given at)) c)) (λ c at. cell_at_stays (column_at (slice_get given at)) c) row) 0)
      (λ cells. told (whole_row columns given cells))

  columns_stay : (columns : List ColumnDef) (insert : Insert) (names : Option (List (List ℕ))) → Stays (ColumnsOf scope columns insert names)
  columns_stay columns insert None = gives (first_columns columns insert.rows)
  columns_stay columns insert (Some names) =
      walk (Name scope) (λ before x. before ++ x.0 ∷ []) names
      (all_of (λ name. (before : List ℕ) → Stays (Name scope before name)) (λ name before. then (Told (column_meant scope None name)) (λ x. Told (named_twice name before x)) (told (column_meant scope None name)) (λ x. told (named_twice name before x))) names) []

  set_stays : (key : ℕ) (item : SetItem) (before : List ℕ) → Stays (SetOf scope key before item)
  set_stays key item before =
      then (Told (column_meant scope None item.column)) _ (told (column_meant scope None item.column))
      (λ x. then (Told (may_set key item.column before x)) _ (told (may_set key item.column before x))
      (λ y. made (set_of y.0) (Typed scope item.expr (asks_column (y.1).kind)) (calm item.expr (asks_column (y.1).kind))))

-- ---- statements

body_stays : (tables : List TableDef) (s : Statement) → Stays (BodyOf tables false s)
body_stays tables (statement.Select select) = go select.table
  where
    go : (name : Option (List ℕ)) → Stays (SelectOf tables false select name)
    go None = made (bare_read select) (ListOf (alone false) [] select.list) (list_stays (alone false) refl [] select.list)
    go (Some name) = then (Told (table_named tables name)) _ (told (table_named tables name)) (λ x. read_stays (over false x.1) refl select x)
body_stays tables (statement.Insert insert) =
    then (Told (table_named tables insert.table)) (InsertInto false insert) (told (table_named tables insert.table))
    (λ x. then (ColumnsOf (over false x.1) (x.1).columns insert insert.columns) _ (columns_stay (over false x.1) refl (x.1).columns insert insert.columns)
    (λ given. made (insert_of x.0) (Each (RowOf (beside false x.1) (x.1).columns given) insert.rows)
    (each_step (RowOf (beside false x.1) (x.1).columns given) insert.rows (all_of (λ row. Stays (RowOf (beside false x.1) (x.1).columns given row)) (λ row. row_stays (beside false x.1) refl (x.1).columns given row) insert.rows))))
body_stays tables (statement.Update update) =
    then (Told (table_named tables update.table)) (Change false update) (told (table_named tables update.table))
    (λ x. then (Walk (SetOf (over false x.1) (x.1).key) (λ before s. before ++ s.column ∷ []) [] update.sets) _
    (walk (SetOf (over false x.1) (x.1).key) (λ before s. before ++ s.column ∷ []) update.sets (all_of (λ item. (before : List ℕ) → Stays (SetOf (over false x.1) (x.1).key before item)) (λ item before. set_stays (over false x.1) refl (x.1).key item before) update.sets) [])
    (λ sets. made (change_of x.0 sets) (FilterOf (over false x.1) update.filter) (filter_stays (over false x.1) refl update.filter)))
body_stays tables (statement.Delete delete) =
    then (Told (table_named tables delete.table)) (Remove false delete) (told (table_named tables delete.table))
    (λ x. made (remove_of x.0) (FilterOf (over false x.1) delete.filter) (filter_stays (over false x.1) refl delete.filter))
body_stays tables s = λ known answer took. absurd took

-- a statement that is checked without a list of types has no parameter
pub unbound : (tables : List TableDef) (s : Statement) (checked : Checked) → AnswersCheck tables s None (Ok checked) → checked.kinds ≡ []
unbound tables s checked answers = answers.1 ∙ ap (map or_text) (body_stays tables s [] (Ok ((checked.body, checked.columns), answers.0)) answers.2)
