-- The tokens of a statement in its one text.
use Rattle.std.specs.Prelude.{ℕ, suc, ℤ, pos, negsuc, Bool, true, false, List, [], ◌∷◌, ◌++◌, Option, Some, None, if◌then◌else◌, codes}
use Rattle.std.specs.List.{flat_map}
use Rattle.sql_tokens.specs.declared.mark.Mark.{Mark}
use Rattle.sql_tokens.specs.declared.mark.Mark.TheVariants.{Open, Close, Comma, Dot, Star, Slash, Percent, Plus, Equal, Unequal, Less, AtMost, Greater, AtLeast, Bars}
use Rattle.sql_tokens.specs.declared.mark.Mark.TheVariants as marks
use Rattle.sql_tokens.specs.declared.word.Word.TheVariants as words
use Rattle.sql_tree.specs.declared.expr.Expr.{Expr}
use Rattle.sql_tree.specs.declared.expr.Expr.TheOpen.{Expr-F, SumPart-F, ProductPart-F}
use Rattle.sql_tree.specs.declared.expr.Expr.TheFolds.{fold-Expr}
use Rattle.sql_tree.specs.declared.expr.SumPart.{SumPart}
use Rattle.sql_tree.specs.declared.expr.ProductPart.{ProductPart}
use Rattle.sql_tree.specs.declared.expr.Comparison.{Comparison}
use Rattle.sql_tree.specs.declared.expr.Comparison.TheVariants as comparison
use Rattle.sql_tree.specs.declared.expr.ProductSign.{ProductSign}
use Rattle.sql_tree.specs.declared.expr.ProductSign.TheVariants.{Times, Over, Rest}
use Rattle.sql_tree.specs.declared.statement.Statement.{Statement}
use Rattle.sql_tree.specs.declared.statement.Statement.TheVariants as statement
use Rattle.sql_tree.specs.declared.statement.Select.{Select}
use Rattle.sql_tree.specs.declared.statement.SelectList.{SelectList}
use Rattle.sql_tree.specs.declared.statement.SelectList.TheVariants as list
use Rattle.sql_tree.specs.declared.statement.SelectItem.{SelectItem}
use Rattle.sql_tree.specs.declared.statement.OrderItem.{OrderItem}
use Rattle.sql_tree.specs.declared.statement.Insert.{Insert}
use Rattle.sql_tree.specs.declared.statement.Cell.{Cell}
use Rattle.sql_tree.specs.declared.statement.Cell.TheVariants.{Fill, Given}
use Rattle.sql_tree.specs.declared.statement.Update.{Update}
use Rattle.sql_tree.specs.declared.statement.SetItem.{SetItem}
use Rattle.sql_tree.specs.declared.statement.Delete.{Delete}
use Rattle.sql_print.specs.Spelling.{Lexeme, word, mark, sign, name, function, command, whole, string, param, text_of}

-- an expression's tokens, and whether it is compound: as a part it then stands in parentheses
pub record Printed : Type 0 where
  pub compound : Bool
  pub tokens : List Lexeme

-- tokens in parentheses
abbrev pub enclosed : List Lexeme → List Lexeme
enclosed tokens = mark Open ∷ (tokens ++ mark Close ∷ [])

-- a part of an expression
abbrev pub part : Printed → List Lexeme
part p = if p.compound then enclosed p.tokens else p.tokens

-- what each gives, with this token between two
abbrev pub joined : {A : Type 0} → Lexeme → (A → List Lexeme) → List A → List Lexeme
joined between tokens_of [] = []
joined between tokens_of (x ∷ xs) = tokens_of x ++ flat_map (λ y. between ∷ tokens_of y) xs

abbrev pub compound : List Lexeme → Printed
compound tokens = record { compound = true; tokens = tokens }

abbrev pub simple : List Lexeme → Printed
simple tokens = record { compound = false; tokens = tokens }

abbrev pub test : Bool → List Lexeme
test true = word words.Is ∷ word words.Not ∷ word words.Null ∷ []
test false = word words.Is ∷ word words.Null ∷ []

abbrev pub compares : Comparison → Mark
compares comparison.Equal = Equal
compares comparison.Unequal = Unequal
compares comparison.Less = Less
compares comparison.AtMost = AtMost
compares comparison.Greater = Greater
compares comparison.AtLeast = AtLeast

abbrev pub multiplies : ProductSign → Mark
multiplies Times = Star
multiplies Over = Slash
multiplies Rest = Percent

abbrev pub adds : Bool → Mark
adds true = marks.Minus
adds false = Plus

abbrev pub truth : Bool → Lexeme
truth true = word words.True
truth false = word words.False

-- a number, with its minus where it is negative
abbrev pub number : ℤ → Printed
number (pos n) = simple (whole n ∷ [])
number (negsuc n) = compound (sign ∷ whole (suc n) ∷ [])

-- a function without arguments
abbrev pub call : List ℕ → List Lexeme
call called = function called ∷ enclosed []

-- a column, with its table's name before it where there is one
abbrev pub column : Option (List ℕ) → List ℕ → List Lexeme
column None called = name called ∷ []
column (Some table) called = name table ∷ mark Dot ∷ name called ∷ []

abbrev pub negation : Bool → List Lexeme
negation true = word words.Not ∷ []
negation false = []

-- one layer of an expression, whose parts are printed
abbrev pub print_layer : Expr-F Printed (List Lexeme) (List Lexeme) → Printed
print_layer (Expr-F.Or parts) = compound (joined (word words.Or) part parts)
print_layer (Expr-F.And parts) = compound (joined (word words.And) part parts)
print_layer (Expr-F.Not p) = compound (word words.Not ∷ part p)
print_layer (Expr-F.IsNull p tests) = compound (part p ++ flat_map test tests)
print_layer (Expr-F.Compare how left right) = compound (part left ++ mark (compares how) ∷ part right)
print_layer (Expr-F.Member p negated entries) =
    compound (part p ++ (negation negated ++ word words.In ∷ enclosed (joined (mark Comma) part entries)))
print_layer (Expr-F.Concat parts) = compound (joined (mark Bars) part parts)
print_layer (Expr-F.Sum p summands) = compound (part p ++ flat_map (λ summand. summand) summands)
print_layer (Expr-F.Product p factors) = compound (part p ++ flat_map (λ factor. factor) factors)
print_layer (Expr-F.Minus p) = compound (sign ∷ part p)
print_layer (Expr-F.Int n) = number n
print_layer (Expr-F.Str text) = simple (string text ∷ [])
print_layer (Expr-F.Bool given) = simple (truth given ∷ [])
print_layer Expr-F.Null = simple (word words.Null ∷ [])
print_layer (Expr-F.Param n) = simple (param n ∷ [])
print_layer (Expr-F.Column qualifier called) = simple (column qualifier called)
print_layer Expr-F.CurrentTimestamp = simple (word words.CurrentTimestamp ∷ [])
print_layer Expr-F.Now = simple (call (codes "now"))
print_layer Expr-F.TransactionTimestamp = simple (call (codes "transaction_timestamp"))
print_layer (Expr-F.Moment text) = simple (word words.Timestamptz ∷ string text ∷ [])

abbrev pub print_factor : ProductPart-F Printed (List Lexeme) (List Lexeme) → List Lexeme
print_factor factor = mark (multiplies factor.sign) ∷ part factor.part

abbrev pub print_summand : SumPart-F Printed (List Lexeme) (List Lexeme) → List Lexeme
print_summand summand = mark (adds summand.minus) ∷ part summand.part

abbrev pub printed : Expr → Printed
printed = fold-Expr Printed (List Lexeme) (List Lexeme) print_layer print_factor print_summand

-- the tokens of an expression that is a part of another
abbrev pub part_tokens : Expr → List Lexeme
part_tokens expr = part (printed expr)

abbrev pub summand_tokens : SumPart → List Lexeme
summand_tokens summand = mark (adds summand.minus) ∷ part_tokens summand.part

abbrev pub factor_tokens : ProductPart → List Lexeme
factor_tokens factor = mark (multiplies factor.sign) ∷ part_tokens factor.part

-- the tokens of an expression that is no part of another
abbrev pub expr_tokens : Expr → List Lexeme
expr_tokens expr = (printed expr).tokens

-- what may be left out
abbrev pub optional : {A : Type 0} → (A → List Lexeme) → Option A → List Lexeme
optional tokens_of None = []
optional tokens_of (Some x) = tokens_of x

abbrev pub where_tokens : Option Expr → List Lexeme
where_tokens filter = optional (λ expr. word words.Where ∷ expr_tokens expr) filter

abbrev pub item_tokens : SelectItem → List Lexeme
item_tokens item = expr_tokens item.expr ++ optional (λ called. word words.As ∷ name called ∷ []) item.name

abbrev pub list_tokens : SelectList → List Lexeme
list_tokens list.Star = mark Star ∷ []
list_tokens list.Count = function (codes "count") ∷ enclosed (mark Star ∷ [])
list_tokens (list.Items items) = joined (mark Comma) item_tokens items

-- a falling order is told, a rising one is not
abbrev pub direction : Bool → List Lexeme
direction true = word words.Desc ∷ []
direction false = []

abbrev pub order_item_tokens : OrderItem → List Lexeme
order_item_tokens item = column item.qualifier item.column ++ direction item.falling

abbrev pub order_tokens : List OrderItem → List Lexeme
order_tokens [] = []
order_tokens (item ∷ items) =
    word words.Order ∷ word words.By ∷ joined (mark Comma) order_item_tokens (item ∷ items)

abbrev pub update_lock : Bool → List Lexeme
update_lock true = word words.For ∷ word words.Update ∷ []
update_lock false = []

abbrev pub select_tokens : Select → List Lexeme
select_tokens select = word words.Select ∷ (list_tokens select.list
    ++ (optional (λ table. word words.From ∷ name table ∷ []) select.table
    ++ (where_tokens select.filter
    ++ (order_tokens select.order
    ++ (optional (λ limit. word words.Limit ∷ expr_tokens limit) select.limit
    ++ update_lock select.for_update)))))

abbrev pub cell_tokens : Cell → List Lexeme
cell_tokens Fill = word words.Default ∷ []
cell_tokens (Given expr) = expr_tokens expr

abbrev pub row_tokens : List Cell → List Lexeme
row_tokens cells = enclosed (joined (mark Comma) cell_tokens cells)

abbrev pub columns_tokens : List (List ℕ) → List Lexeme
columns_tokens names = enclosed (joined (mark Comma) (λ called. name called ∷ []) names)

abbrev pub insert_tokens : Insert → List Lexeme
insert_tokens insert = word words.Insert ∷ word words.Into ∷ name insert.table
    ∷ (optional columns_tokens insert.columns ++ word words.Values ∷ joined (mark Comma) row_tokens insert.rows)

abbrev pub set_tokens : SetItem → List Lexeme
set_tokens item = name item.column ∷ mark Equal ∷ expr_tokens item.expr

abbrev pub update_tokens : Update → List Lexeme
update_tokens update = word words.Update ∷ name update.table ∷ word words.Set
    ∷ (joined (mark Comma) set_tokens update.sets ++ where_tokens update.filter)

abbrev pub delete_tokens : Delete → List Lexeme
delete_tokens delete = word words.Delete ∷ word words.From ∷ name delete.table ∷ where_tokens delete.filter

-- the tokens of a statement; WORK, TRANSACTION and the isolation level are left out
abbrev pub tokens_of : Statement → List Lexeme
tokens_of (statement.Select select) = select_tokens select
tokens_of (statement.Insert insert) = insert_tokens insert
tokens_of (statement.Update update) = update_tokens update
tokens_of (statement.Delete delete) = delete_tokens delete
tokens_of statement.Begin = word words.Begin ∷ []
tokens_of statement.Commit = word words.Commit ∷ []
tokens_of statement.Rollback = word words.Rollback ∷ []
tokens_of statement.ShowNodes = word words.Show ∷ name (codes "pool_nodes") ∷ []
tokens_of (statement.Recover backend) =
    command (codes "pgpool") ∷ command (codes "recover") ∷ whole backend ∷ []

-- the one text of a statement
abbrev pub statement_text : Statement → List ℕ
statement_text statement = text_of (tokens_of statement)
