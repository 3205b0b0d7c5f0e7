-- Reading statements from left to right, with the first fault that is met.
use Rattle.std.specs.Prelude.{ℕ, pos, cond, nat_le, List, ◌∷◌, length, Option, Some, None, Result, Ok, Err, codes}
use Rattle.sql_tokens.specs.declared.fault.Awaited.{Awaited}
use Rattle.sql_tokens.specs.declared.fault.Awaited.TheVariants.{End, Statement as Wanted, Values, Backend, Item, Star}
use Rattle.sql_tokens.specs.declared.fault.Fault.{Fault}
use Rattle.sql_tokens.specs.declared.fault.Fault.TheVariants.{Syntax}
use Rattle.sql_tokens.specs.Reading.{Parse}
use Rattle.sql_tokens.specs.declared.mark.Mark.TheVariants as mark
use Rattle.sql_tokens.specs.declared.token.Token.{Token}
use Rattle.sql_tokens.specs.declared.token.Token.TheVariants as token
use Rattle.sql_tokens.specs.declared.word.Word.TheVariants as word
use Rattle.sql_tree.specs.declared.expr.Expr.{Expr, Minus, Int, Null, Param}
use Rattle.sql_tree.specs.declared.statement.Cell.{Cell}
use Rattle.sql_tree.specs.declared.statement.Cell.TheVariants.{Fill}
use Rattle.sql_tree.specs.declared.statement.OrderItem.{OrderItem}
use Rattle.sql_tree.specs.declared.statement.SelectItem.{SelectItem}
use Rattle.sql_tree.specs.declared.statement.SelectList.{SelectList}
use Rattle.sql_tree.specs.declared.statement.SelectList.TheVariants as list
use Rattle.sql_tree.specs.declared.statement.SetItem.{SetItem}
use Rattle.sql_tree.specs.declared.statement.Statement.{Statement}
use Rattle.sql_tree.specs.declared.statement.Statement.TheVariants as statement
use Rattle.sql_expr.specs.Grammar.{least}
use Rattle.sql_expr.specs.Reading.{expr_at, after_comma}
use Rattle.sql_reader.specs.declared.verb.Verb.{Verb}
use Rattle.sql_reader.specs.declared.verb.Verb.TheVariants as verb
use Rattle.sql_reader.specs.Grammar.{kept, delete_of, set_item, update_of, always, recover_of, given_cell, insert_of, select_item, items_of, order_item, Source, select_of}
use Rattle.sql_reader.specs.Steps.{done, both, made, one_of, maybe, either, behind, listed}
use Rattle.sql_reader.specs.Words.{after_update, after_from, after_where, after_set, after_equal, after_work, after_isolation, after_level, after_repeatable, after_read, after_transaction, after_plain, after_name, after_open, after_close, after_into, after_values, after_default, after_as, after_dot, after_direction, after_order, after_by, after_limit, after_for, after_star, after_count}

abbrev pub name_at : Parse Token (List ℕ)
name_at = one_of after_name Wanted (λ n. done n.text)

abbrev pub filter_at : ℕ → Parse Token (Option Expr)
filter_at depth = maybe after_where (λ _. expr_at depth)

abbrev pub delete_at : ℕ → Parse Token Statement
delete_at depth = made delete_of (behind after_from Wanted (both name_at (filter_at depth)))

abbrev pub set_at : ℕ → Parse Token SetItem
set_at depth = made set_item (both name_at (behind after_equal Wanted (expr_at depth)))

abbrev pub update_at : ℕ → Parse Token Statement
update_at depth = made update_of (both name_at (behind after_set Wanted (both (listed after_comma (set_at depth)) (filter_at depth))))

abbrev pub work_at : Parse Token (Option (Unit {0}))
work_at = maybe after_work (λ _. done tt)

abbrev pub isolation_at : Parse Token (Option (Unit {0}))
isolation_at = maybe after_isolation (λ _. behind after_level Wanted (behind after_repeatable Wanted (behind after_read Wanted (done tt))))

abbrev pub begin_at : Parse Token Statement
begin_at = made (always statement.Begin) (both work_at isolation_at)

abbrev pub start_at : Parse Token Statement
start_at = made (always statement.Begin) (behind after_transaction Wanted isolation_at)

abbrev pub ending_at : Statement → Parse Token Statement
ending_at s = made (always s) work_at

abbrev pub show_at : Parse Token Statement
show_at = behind (after_plain (codes "pool_nodes")) Wanted (done statement.ShowNodes)

abbrev pub backend_at : Parse Token ℕ
backend_at (token.Number (pos n) ∷ ts) = cond (nat_le n 255) (Ok (n, ts)) (Err (Syntax (length (token.Number (pos n) ∷ ts)) Backend))
backend_at ts = Err (Syntax (length ts) Backend)

abbrev pub recover_at : Parse Token Statement
recover_at = made recover_of (behind (after_plain (codes "recover")) Wanted backend_at)

-- ---- INSERT

abbrev pub closed : {A : Type 0} → Awaited → Parse Token A → Parse Token A
closed awaited p = made kept (both p (behind after_close awaited (done tt)))

abbrev pub cell_at : ℕ → Parse Token Cell
cell_at depth = either after_default (λ _. done Fill) (made given_cell (expr_at depth))

abbrev pub row_at : ℕ → Parse Token (List Cell)
row_at depth = behind after_open Wanted (closed End (listed after_comma (cell_at depth)))

abbrev pub columns_at : Parse Token (Option (List (List ℕ)))
columns_at = maybe after_open (λ _. closed Wanted (listed after_comma name_at))

abbrev pub insert_at : ℕ → Parse Token Statement
insert_at depth = made insert_of (behind after_into Wanted (both name_at (both columns_at (behind after_values Values (listed after_comma (row_at depth))))))

-- ---- SELECT

abbrev pub item_at : ℕ → Parse Token SelectItem
item_at depth = made select_item (both (expr_at depth) (maybe after_as (λ _. name_at)))

abbrev pub items_at : ℕ → Parse Token SelectList
items_at depth = made items_of (listed after_comma (item_at depth))

-- behind `count (`
abbrev pub counted_at : Parse Token SelectList
counted_at = behind after_star Star (behind after_close Wanted (done list.Count))

abbrev pub list_step : ℕ → List Token → Option (Unit {0} × List Token) → Result (SelectList × List Token) Fault
list_step depth ts None = items_at depth ts
list_step depth ts (Some m) = counted_at m.1

abbrev pub list_at : ℕ → Parse Token SelectList
list_at depth (token.Mark mark.Star ∷ ts) = Ok (list.Star, ts)
list_at depth ts = list_step depth ts (after_count ts)

abbrev pub order_item_at : Parse Token OrderItem
order_item_at = made order_item (both (one_of after_name Item (λ n. done n.text)) (both (maybe after_dot (λ _. name_at)) (maybe after_direction done)))

abbrev pub order_at : Parse Token (Option (List OrderItem))
order_at = maybe after_order (λ _. behind after_by Wanted (listed after_comma order_item_at))

-- behind the minus of a limit
abbrev pub negative_at : Parse Token Expr
negative_at (token.Number n ∷ ts) = Ok (Minus (Int n), ts)
negative_at (token.Least ∷ ts) = Ok (Int least, ts)
negative_at ts = Err (Syntax (length ts) Wanted)

abbrev pub size_at : Parse Token Expr
size_at (token.Number n ∷ ts) = Ok (Int n, ts)
size_at (token.Mark mark.Minus ∷ ts) = negative_at ts
size_at (token.Word word.Null ∷ ts) = Ok (Null, ts)
size_at (token.Param n ∷ ts) = Ok (Param n, ts)
size_at ts = Err (Syntax (length ts) Wanted)

abbrev pub limit_at : Parse Token (Option Expr)
limit_at = maybe after_limit (λ _. size_at)

abbrev pub for_update_at : Parse Token (Option (Unit {0}))
for_update_at = maybe after_for (λ _. behind after_update Wanted (done tt))

abbrev pub source_at : ℕ → Parse Token Source
source_at depth = both name_at (both (filter_at depth) (both order_at (both limit_at for_update_at)))

abbrev pub select_at : ℕ → Parse Token Statement
select_at depth = made select_of (both (list_at depth) (maybe after_from (λ _. source_at depth)))

-- ---- statements

abbrev pub verb_at : ℕ → Verb → Parse Token Statement
verb_at depth verb.Select = select_at depth
verb_at depth verb.Insert = insert_at depth
verb_at depth verb.Update = update_at depth
verb_at depth verb.Delete = delete_at depth
verb_at depth verb.Begin = begin_at
verb_at depth verb.Start = start_at
verb_at depth verb.Commit = ending_at statement.Commit
verb_at depth verb.End = ending_at statement.Commit
verb_at depth verb.Rollback = ending_at statement.Rollback
verb_at depth verb.Abort = ending_at statement.Rollback
verb_at depth verb.Show = show_at
verb_at depth verb.Pgpool = recover_at

-- the reading that gives this statement, and what follows it
abbrev pub read_as : Statement → List Token → Result (Statement × List Token) Fault
read_as s rest = Ok (s, rest)
