-- The whole numbers of a statement.
use Rattle.std.specs.Prelude.{ℕ, pos, negsuc, max, List, [], ◌∷◌, ◌++◌, map, Option, Some, None}
use Rattle.std.specs.List.{flat_map}
use Rattle.sql_tree.specs.declared.expr.Expr.{Expr}
use Rattle.sql_tree.specs.declared.expr.Expr.TheOpen.{Expr-F}
use Rattle.sql_tree.specs.declared.expr.Expr.TheFolds.{fold-Expr}
use Rattle.sql_tree.specs.declared.statement.Cell.{Cell}
use Rattle.sql_tree.specs.declared.statement.Cell.TheVariants.{Fill, Given}
use Rattle.sql_tree.specs.declared.statement.SelectList.{SelectList}
use Rattle.sql_tree.specs.declared.statement.SelectList.TheVariants.{Star, Count, Items}
use Rattle.sql_tree.specs.declared.statement.Statement.{Statement}
use Rattle.sql_tree.specs.declared.statement.Statement.TheVariants as statement

-- the greatest of them, 0 where there is none
abbrev pub greatest : List ℕ → ℕ
greatest [] = 0
greatest (n ∷ ns) = max n (greatest ns)

-- one layer of an expression, where the greatest number of each part is known; the least int8 is no such number
abbrev pub number_layer : Expr-F ℕ ℕ ℕ → ℕ
number_layer (Expr-F.Or parts) = greatest parts
number_layer (Expr-F.And parts) = greatest parts
number_layer (Expr-F.Not x) = x
number_layer (Expr-F.IsNull x tests) = x
number_layer (Expr-F.Compare how x y) = max x y
number_layer (Expr-F.Member x negated entries) = max x (greatest entries)
number_layer (Expr-F.Concat parts) = greatest parts
number_layer (Expr-F.Sum x summands) = max x (greatest summands)
number_layer (Expr-F.Product x factors) = max x (greatest factors)
number_layer (Expr-F.Minus x) = x
number_layer (Expr-F.Int (pos n)) = n
number_layer (Expr-F.Int (negsuc n)) = 0
number_layer (Expr-F.Str text) = 0
number_layer (Expr-F.Bool truth) = 0
number_layer Expr-F.Null = 0
number_layer (Expr-F.Param n) = 0
number_layer (Expr-F.Column qualifier name) = 0
number_layer Expr-F.CurrentTimestamp = 0
number_layer Expr-F.Now = 0
number_layer Expr-F.TransactionTimestamp = 0
number_layer (Expr-F.Moment text) = 0

-- the greatest whole number that stands in an expression, 0 where there is none
abbrev pub greatest_number : Expr → ℕ
greatest_number = fold-Expr ℕ ℕ ℕ number_layer (λ factor. factor.part) (λ summand. summand.part)

abbrev pub of_option : Option Expr → List Expr
of_option None = []
of_option (Some expr) = expr ∷ []

abbrev pub of_list : SelectList → List Expr
of_list Star = []
of_list Count = []
of_list (Items items) = map (λ item. item.expr) items

abbrev pub of_cell : Cell → List Expr
of_cell Fill = []
of_cell (Given expr) = expr ∷ []

-- the expressions of a statement
abbrev pub expressions : Statement → List Expr
expressions (statement.Select select) = of_list select.list ++ (of_option select.filter ++ of_option select.limit)
expressions (statement.Insert insert) = flat_map (λ cells. flat_map of_cell cells) insert.rows
expressions (statement.Update update) = map (λ item. item.expr) update.sets ++ of_option update.filter
expressions (statement.Delete delete) = of_option delete.filter
expressions _ = []
