-- The lexemes of every expression and statement may stand as they are printed.
use Rattle.std.proofs.Common.{◌≡◌, ◌∙◌, ℕ, suc, ℤ, pos, negsuc, List, [], ◌∷◌, ◌++◌, Bool, true, false, Option, Some, None, map, refl, sym, ap, subst}
use Rattle.std.specs.Prelude.{codes}
use Rattle.std.specs.List.{flat_map}
use Rattle.std.proofs.lemmas.List.{append-nil}
use Rattle.sql_tokens.specs.declared.mark.Mark.TheVariants as marks
use Rattle.sql_tokens.specs.declared.word.Word.TheVariants as words
use Rattle.sql_tree.specs.declared.expr.Expr.{Expr, roll-Expr, map-Expr}
use Rattle.sql_tree.specs.declared.expr.Expr.TheOpen.{Expr-F, ProductPart-F, SumPart-F}
use Rattle.sql_tree.specs.declared.expr.Expr.TheFolds.{ind-Expr}
use Rattle.sql_tree.specs.declared.expr.Expr.TheVariants as forms
use Rattle.sql_tree.specs.declared.expr.SumPart.{SumPart}
use Rattle.sql_tree.specs.declared.expr.ProductPart.{ProductPart}
use Rattle.sql_tree.specs.declared.statement.Cell.{Cell}
use Rattle.sql_tree.specs.declared.statement.Cell.TheVariants.{Fill, Given}
use Rattle.sql_tree.specs.declared.statement.OrderItem.{OrderItem}
use Rattle.sql_tree.specs.declared.statement.SelectItem.{SelectItem}
use Rattle.sql_tree.specs.declared.statement.SelectList.{SelectList}
use Rattle.sql_tree.specs.declared.statement.SelectList.TheVariants as list
use Rattle.sql_tree.specs.declared.statement.SetItem.{SetItem}
use Rattle.sql_tree.specs.declared.statement.Statement.{Statement}
use Rattle.sql_tree.specs.declared.statement.Statement.TheVariants as statement
use Rattle.sql_print.specs.Spelling.{Lexeme, word, mark, sign, name, function, command, whole, string, param}
use Rattle.sql_print.specs.Printed.{Printed, printed, part, part_tokens, compound, simple, enclosed, joined, test, truth, compares, multiplies, adds, negation, number, column, call, summand_tokens, factor_tokens, expr_tokens, optional, where_tokens, item_tokens, list_tokens, direction, order_item_tokens, order_tokens, update_lock, cell_tokens, row_tokens, columns_tokens, set_tokens, tokens_of}
use Rattle.sql_print.proofs.Forms.{printed_or, printed_and, printed_not, printed_is_null, printed_compare, printed_member, printed_concat, printed_sum, printed_product, printed_minus, printed_int, printed_str, printed_bool, printed_null, printed_param, printed_column, printed_current, printed_now, printed_transaction, printed_moment}
use Rattle.sql_profile.proofs.Each.{Each, each_map, each_of, each_all}
use Rattle.sql_profile.proofs.Spaced.{Flows}
use Rattle.sql_profile.proofs.Sound.{Sound, NoMinus, ready_none, sound_none, sound_append, sound_word, sound_name, sound_string, sound_param, sound_command, sound_whole, sound_mark, sound_enclosed, sound_call, sound_column, sound_truth, sound_test, sound_each, compares_no_dot, multiplies_no_dot, adds_no_dot, sound_sign, no_minus_first, no_minus_column, no_minus_truth}

-- what is printed may stand alone and as a part, and as a part it begins with no minus
pub record IsSound (p : Printed) : Type 0 where
  pub alone : Sound p.tokens
  pub as_part : Sound (part p)
  pub no_minus : NoMinus (part p)

sound_compound : (xs : List Lexeme) → Sound xs → IsSound (compound xs)
sound_compound xs x = record { alone = x; as_part = sound_enclosed xs x; no_minus = λ ys. refl }

sound_simple : (xs : List Lexeme) → Sound xs → NoMinus xs → IsSound (simple xs)
sound_simple xs x none = record { alone = x; as_part = x; no_minus = none }

abbrev IsSoundExpr : Expr → Type 0
IsSoundExpr e = IsSound (printed e)

-- ---- lists

sound_joined : {A : Type 0} (between : Lexeme) → ((xs : List Lexeme) → Sound xs → Sound (between ∷ xs)) → (text : A → List Lexeme) (items : List A)
    → Each (λ a. Sound (text a)) items → Sound (joined between text items)
sound_joined between before text [] each = sound_none
sound_joined between before text (a ∷ others) each =
    sound_append (text a) (flat_map (λ y. between ∷ text y) others) each.0
    (sound_each (λ y. between ∷ text y) others (each_map (λ a x. before (text a) x) others each.1))

between_or : (xs : List Lexeme) → Sound xs → Sound (word words.Or ∷ xs)
between_or xs x = sound_word words.Or xs x

between_and : (xs : List Lexeme) → Sound xs → Sound (word words.And ∷ xs)
between_and xs x = sound_word words.And xs x

between_bars : (xs : List Lexeme) → Sound xs → Sound (mark marks.Bars ∷ xs)
between_bars xs x = sound_mark marks.Bars xs refl x

between_comma : (xs : List Lexeme) → Sound xs → Sound (mark marks.Comma ∷ xs)
between_comma xs x = sound_mark marks.Comma xs refl x

sound_parts : (between : Lexeme) → ((xs : List Lexeme) → Sound xs → Sound (between ∷ xs)) → (es : List Expr) → Each IsSoundExpr es → Sound (joined between part_tokens es)
sound_parts between before es each = sound_joined between before part_tokens es (each_map (λ e x. x.as_part) es each)

-- ---- forms

sound_number : (n : ℤ) → IsSound (number n)
sound_number (pos n) = sound_simple (whole n ∷ []) (sound_whole n [] sound_none) (no_minus_first (whole n) [] refl)
sound_number (negsuc n) = sound_compound (sign ∷ whole (suc n) ∷ []) (sound_sign (whole (suc n) ∷ []) (no_minus_first (whole (suc n)) [] refl) (sound_whole (suc n) [] sound_none))

sound_negation : (negated : Bool) (xs : List Lexeme) → Sound xs → Sound (negation negated ++ xs)
sound_negation true xs x = sound_word words.Not xs x
sound_negation false xs x = x

sound_called : (called : List ℕ) → IsSound (simple (call called))
sound_called called = sound_simple (call called) (sound_call called [] sound_none) (no_minus_first (function called) (enclosed []) refl)

sound_summand : (s : SumPart) → IsSoundExpr s.part → Sound (summand_tokens s)
sound_summand s x = sound_mark (adds s.minus) (part_tokens s.part) (adds_no_dot s.minus) x.as_part

sound_factor : (s : ProductPart) → IsSoundExpr s.part → Sound (factor_tokens s)
sound_factor s x = sound_mark (multiplies s.sign) (part_tokens s.part) (multiplies_no_dot s.sign) x.as_part

module _ {X Y Z : Type 0} (e_of : X → Expr) (p_of : Y → ProductPart) (s_of : Z → SumPart) (ex : (x : X) → IsSoundExpr (e_of x)) (py : (y : Y) → IsSoundExpr (p_of y).part) (sz : (z : Z) → IsSoundExpr (s_of z).part) where
  layer : (y : Expr-F X Y Z) → IsSoundExpr (roll-Expr (map-Expr X Y Z Expr ProductPart SumPart e_of p_of s_of y))
  layer (Expr-F.Or parts) =
      let es = map e_of parts in
      subst IsSoundExpr (sym (forms.rolls-Or es)) (subst IsSound (sym (printed_or es))
      (sound_compound (joined (word words.Or) part_tokens es) (sound_parts (word words.Or) between_or es (each_of e_of IsSoundExpr ex parts))))
  layer (Expr-F.And parts) =
      let es = map e_of parts in
      subst IsSoundExpr (sym (forms.rolls-And es)) (subst IsSound (sym (printed_and es))
      (sound_compound (joined (word words.And) part_tokens es) (sound_parts (word words.And) between_and es (each_of e_of IsSoundExpr ex parts))))
  layer (Expr-F.Not x) =
      subst IsSoundExpr (sym (forms.rolls-Not (e_of x))) (subst IsSound (sym (printed_not (e_of x)))
      (sound_compound (word words.Not ∷ part_tokens (e_of x)) (sound_word words.Not (part_tokens (e_of x)) (ex x).as_part)))
  layer (Expr-F.IsNull x tests) =
      subst IsSoundExpr (sym (forms.rolls-IsNull (e_of x) tests)) (subst IsSound (sym (printed_is_null (e_of x) tests))
      (sound_compound (part_tokens (e_of x) ++ flat_map test tests)
      (sound_append (part_tokens (e_of x)) (flat_map test tests) (ex x).as_part (sound_each test tests (each_all (λ t. Sound (test t)) sound_test tests)))))
  layer (Expr-F.Compare how x y) =
      subst IsSoundExpr (sym (forms.rolls-Compare how (e_of x) (e_of y))) (subst IsSound (sym (printed_compare how (e_of x) (e_of y)))
      (sound_compound (part_tokens (e_of x) ++ mark (compares how) ∷ part_tokens (e_of y))
      (sound_append (part_tokens (e_of x)) (mark (compares how) ∷ part_tokens (e_of y)) (ex x).as_part (sound_mark (compares how) (part_tokens (e_of y)) (compares_no_dot how) (ex y).as_part))))
  layer (Expr-F.Member x negated parts) =
      let es = map e_of parts in
      let listed = joined (mark marks.Comma) part_tokens es in
      subst IsSoundExpr (sym (forms.rolls-Member (e_of x) negated es)) (subst IsSound (sym (printed_member (e_of x) negated es))
      (sound_compound (part_tokens (e_of x) ++ (negation negated ++ word words.In ∷ enclosed listed))
      (sound_append (part_tokens (e_of x)) (negation negated ++ word words.In ∷ enclosed listed) (ex x).as_part
      (sound_negation negated (word words.In ∷ enclosed listed)
      (sound_word words.In (enclosed listed) (sound_enclosed listed (sound_parts (mark marks.Comma) between_comma es (each_of e_of IsSoundExpr ex parts))))))))
  layer (Expr-F.Concat parts) =
      let es = map e_of parts in
      subst IsSoundExpr (sym (forms.rolls-Concat es)) (subst IsSound (sym (printed_concat es))
      (sound_compound (joined (mark marks.Bars) part_tokens es) (sound_parts (mark marks.Bars) between_bars es (each_of e_of IsSoundExpr ex parts))))
  layer (Expr-F.Sum x parts) =
      let ss = map s_of parts in
      subst IsSoundExpr (sym (forms.rolls-Sum (e_of x) ss)) (subst IsSound (sym (printed_sum (e_of x) ss))
      (sound_compound (part_tokens (e_of x) ++ flat_map summand_tokens ss)
      (sound_append (part_tokens (e_of x)) (flat_map summand_tokens ss) (ex x).as_part
      (sound_each summand_tokens ss (each_map sound_summand ss (each_of s_of (λ s. IsSoundExpr s.part) sz parts))))))
  layer (Expr-F.Product x parts) =
      let ss = map p_of parts in
      subst IsSoundExpr (sym (forms.rolls-Product (e_of x) ss)) (subst IsSound (sym (printed_product (e_of x) ss))
      (sound_compound (part_tokens (e_of x) ++ flat_map factor_tokens ss)
      (sound_append (part_tokens (e_of x)) (flat_map factor_tokens ss) (ex x).as_part
      (sound_each factor_tokens ss (each_map sound_factor ss (each_of p_of (λ s. IsSoundExpr s.part) py parts))))))
  layer (Expr-F.Minus x) =
      subst IsSoundExpr (sym (forms.rolls-Minus (e_of x))) (subst IsSound (sym (printed_minus (e_of x)))
      (sound_compound (sign ∷ part_tokens (e_of x)) (sound_sign (part_tokens (e_of x)) (ex x).no_minus (ex x).as_part)))
  layer (Expr-F.Int n) = subst IsSoundExpr (sym (forms.rolls-Int n)) (subst IsSound (sym (printed_int n)) (sound_number n))
  layer (Expr-F.Str text) =
      subst IsSoundExpr (sym (forms.rolls-Str text)) (subst IsSound (sym (printed_str text))
      (sound_simple (string text ∷ []) (sound_string text [] sound_none) (no_minus_first (string text) [] refl)))
  layer (Expr-F.Bool given) =
      subst IsSoundExpr (sym (forms.rolls-Bool given)) (subst IsSound (sym (printed_bool given))
      (sound_simple (truth given ∷ []) (sound_truth given) (no_minus_truth given)))
  layer Expr-F.Null =
      subst IsSoundExpr (sym forms.rolls-Null) (subst IsSound (sym printed_null)
      (sound_simple (word words.Null ∷ []) (sound_word words.Null [] sound_none) (no_minus_first (word words.Null) [] refl)))
  layer (Expr-F.Param n) =
      subst IsSoundExpr (sym (forms.rolls-Param n)) (subst IsSound (sym (printed_param n))
      (sound_simple (param n ∷ []) (sound_param n [] sound_none) (no_minus_first (param n) [] refl)))
  layer (Expr-F.Column qualifier called) =
      subst IsSoundExpr (sym (forms.rolls-Column qualifier called)) (subst IsSound (sym (printed_column qualifier called))
      (sound_simple (column qualifier called) (sound_column qualifier called) (no_minus_column qualifier called)))
  layer Expr-F.CurrentTimestamp =
      subst IsSoundExpr (sym forms.rolls-CurrentTimestamp) (subst IsSound (sym printed_current)
      (sound_simple (word words.CurrentTimestamp ∷ []) (sound_word words.CurrentTimestamp [] sound_none) (no_minus_first (word words.CurrentTimestamp) [] refl)))
  layer Expr-F.Now = subst IsSoundExpr (sym forms.rolls-Now) (subst IsSound (sym printed_now) (sound_called (codes "now")))
  layer Expr-F.TransactionTimestamp =
      subst IsSoundExpr (sym forms.rolls-TransactionTimestamp) (subst IsSound (sym printed_transaction) (sound_called (codes "transaction_timestamp")))
  layer (Expr-F.Moment text) =
      subst IsSoundExpr (sym (forms.rolls-Moment text)) (subst IsSound (sym (printed_moment text))
      (sound_simple (word words.Timestamptz ∷ string text ∷ []) (sound_word words.Timestamptz (string text ∷ []) (sound_string text [] sound_none)) (no_minus_first (word words.Timestamptz) (string text ∷ []) refl)))

from_layer : {X Y Z : Type 0} (y : Expr-F X Y Z) (e_of : X → Expr) (p_of : Y → ProductPart) (s_of : Z → SumPart)
    → ((x : X) → IsSoundExpr (e_of x)) → ((y : Y) → IsSoundExpr (p_of y).part) → ((z : Z) → IsSoundExpr (s_of z).part)
    → IsSoundExpr (roll-Expr (map-Expr X Y Z Expr ProductPart SumPart e_of p_of s_of y))
from_layer y e_of p_of s_of ex py sz = layer e_of p_of s_of ex py sz y

pub sound_expr : (e : Expr) → IsSoundExpr e
sound_expr = ind-Expr IsSoundExpr (λ p. IsSoundExpr p.part) (λ s. IsSoundExpr s.part)
    (λ x y is. subst (λ (z : Expr-F Expr ProductPart SumPart). IsSoundExpr (roll-Expr z)) is (from_layer y (λ e. e.0) (λ p. p.0) (λ s. s.0) (λ e. e.1) (λ p. p.1) (λ s. s.1)))
    (λ x y is. subst (λ (z : ProductPart-F Expr ProductPart SumPart). IsSoundExpr z.part) is y.part.1)
    (λ x y is. subst (λ (z : SumPart-F Expr ProductPart SumPart). IsSoundExpr z.part) is y.part.1)

-- ---- statements

sound_optional : {A : Type 0} (text : A → List Lexeme) → ((a : A) → Sound (text a)) → (o : Option A) → Sound (optional text o)
sound_optional text x None = sound_none
sound_optional text x (Some a) = x a

sound_all : {A : Type 0} (text : A → List Lexeme) → ((a : A) → Sound (text a)) → (items : List A) → Sound (joined (mark marks.Comma) text items)
sound_all text x items = sound_joined (mark marks.Comma) between_comma text items (each_all (λ a. Sound (text a)) x items)

sound_where : (filter : Option Expr) → Sound (where_tokens filter)
sound_where filter = sound_optional (λ expr. word words.Where ∷ expr_tokens expr) (λ e. sound_word words.Where (expr_tokens e) (sound_expr e).alone) filter

sound_as : (called : List ℕ) → Sound (word words.As ∷ name called ∷ [])
sound_as called = sound_word words.As (name called ∷ []) (sound_name called [] sound_none)

sound_item : (item : SelectItem) → Sound (item_tokens item)
sound_item item =
    sound_append (expr_tokens item.expr) (optional (λ called. word words.As ∷ name called ∷ []) item.name) (sound_expr item.expr).alone
    (sound_optional (λ called. word words.As ∷ name called ∷ []) sound_as item.name)

sound_list : (given : SelectList) → Sound (list_tokens given)
sound_list list.Star = sound_mark marks.Star [] refl sound_none
sound_list list.Count = sound_call (codes "count") (mark marks.Star ∷ []) (sound_mark marks.Star [] refl sound_none)
sound_list (list.Items items) = sound_all item_tokens sound_item items

sound_direction : (falling : Bool) → Sound (direction falling)
sound_direction true = sound_word words.Desc [] sound_none
sound_direction false = sound_none

sound_order_item : (item : OrderItem) → Sound (order_item_tokens item)
sound_order_item item = sound_append (column item.qualifier item.column) (direction item.falling) (sound_column item.qualifier item.column) (sound_direction item.falling)

sound_order : (items : List OrderItem) → Sound (order_tokens items)
sound_order [] = sound_none
sound_order (item ∷ items) =
    sound_word words.Order (word words.By ∷ joined (mark marks.Comma) order_item_tokens (item ∷ items))
    (sound_word words.By (joined (mark marks.Comma) order_item_tokens (item ∷ items)) (sound_all order_item_tokens sound_order_item (item ∷ items)))

sound_lock : (lock : Bool) → Sound (update_lock lock)
sound_lock true = sound_word words.For (word words.Update ∷ []) (sound_word words.Update [] sound_none)
sound_lock false = sound_none

sound_cell : (cell : Cell) → Sound (cell_tokens cell)
sound_cell Fill = sound_word words.Default [] sound_none
sound_cell (Given e) = (sound_expr e).alone

sound_row : (cells : List Cell) → Sound (row_tokens cells)
sound_row cells = sound_enclosed (joined (mark marks.Comma) cell_tokens cells) (sound_all cell_tokens sound_cell cells)

sound_columns : (names : List (List ℕ)) → Sound (columns_tokens names)
sound_columns names =
    sound_enclosed (joined (mark marks.Comma) (λ called. name called ∷ []) names) (sound_all (λ called. name called ∷ []) (λ called. sound_name called [] sound_none) names)

sound_set : (item : SetItem) → Sound (set_tokens item)
sound_set item = sound_name item.column (mark marks.Equal ∷ expr_tokens item.expr) (sound_mark marks.Equal (expr_tokens item.expr) refl (sound_expr item.expr).alone)

sound_from : (table : List ℕ) → Sound (word words.From ∷ name table ∷ [])
sound_from table = sound_word words.From (name table ∷ []) (sound_name table [] sound_none)

sound_limit : (limit : Expr) → Sound (word words.Limit ∷ expr_tokens limit)
sound_limit limit = sound_word words.Limit (expr_tokens limit) (sound_expr limit).alone

pub sound_statement : (s : Statement) → Sound (tokens_of s)
sound_statement (statement.Select select) =
    let lock = update_lock select.for_update in
    let limit = optional (λ limit. word words.Limit ∷ expr_tokens limit) select.limit in
    let order = order_tokens select.order in
    let filter = where_tokens select.filter in
    let table = optional (λ table. word words.From ∷ name table ∷ []) select.table in
    sound_word words.Select (list_tokens select.list ++ (table ++ (filter ++ (order ++ (limit ++ lock)))))
    (sound_append (list_tokens select.list) (table ++ (filter ++ (order ++ (limit ++ lock)))) (sound_list select.list)
    (sound_append table (filter ++ (order ++ (limit ++ lock))) (sound_optional (λ table. word words.From ∷ name table ∷ []) sound_from select.table)
    (sound_append filter (order ++ (limit ++ lock)) (sound_where select.filter)
    (sound_append order (limit ++ lock) (sound_order select.order)
    (sound_append limit lock (sound_optional (λ limit. word words.Limit ∷ expr_tokens limit) sound_limit select.limit) (sound_lock select.for_update))))))
sound_statement (statement.Insert insert) =
    let rows = joined (mark marks.Comma) row_tokens insert.rows in
    let columns = optional columns_tokens insert.columns in
    sound_word words.Insert (word words.Into ∷ name insert.table ∷ (columns ++ word words.Values ∷ rows))
    (sound_word words.Into (name insert.table ∷ (columns ++ word words.Values ∷ rows))
    (sound_name insert.table (columns ++ word words.Values ∷ rows)
    (sound_append columns (word words.Values ∷ rows) (sound_optional columns_tokens sound_columns insert.columns)
    (sound_word words.Values rows (sound_all row_tokens sound_row insert.rows)))))
sound_statement (statement.Update update) =
    let sets = joined (mark marks.Comma) set_tokens update.sets in
    let filter = where_tokens update.filter in
    sound_word words.Update (name update.table ∷ word words.Set ∷ (sets ++ filter))
    (sound_name update.table (word words.Set ∷ (sets ++ filter))
    (sound_word words.Set (sets ++ filter)
    (sound_append sets filter (sound_all set_tokens sound_set update.sets) (sound_where update.filter))))
sound_statement (statement.Delete delete) =
    sound_word words.Delete (word words.From ∷ name delete.table ∷ where_tokens delete.filter)
    (sound_word words.From (name delete.table ∷ where_tokens delete.filter) (sound_name delete.table (where_tokens delete.filter) (sound_where delete.filter)))
sound_statement statement.Begin = sound_word words.Begin [] sound_none
sound_statement statement.Commit = sound_word words.Commit [] sound_none
sound_statement statement.Rollback = sound_word words.Rollback [] sound_none
sound_statement statement.ShowNodes = sound_word words.Show (name (codes "pool_nodes") ∷ []) (sound_name (codes "pool_nodes") [] sound_none)
sound_statement (statement.Recover backend) =
    sound_command (codes "pgpool") (command (codes "recover") ∷ whole backend ∷ [])
    (sound_command (codes "recover") (whole backend ∷ []) (sound_whole backend [] sound_none))

pub flows_statement : (s : Statement) → Flows (tokens_of s)
flows_statement s = subst Flows (append-nil (tokens_of s)) (sound_statement s [] ready_none).0
