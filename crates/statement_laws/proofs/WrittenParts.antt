-- A statement whose expressions may be written, as its names may, has tokens that may be written.
use Rattle.std.proofs.Common.{ℕ, List, [], ◌∷◌, ◌++◌, length, map, refl}
use Rattle.std.specs.Prelude.{codes, Bool as Truth, true, false, Option, Some, None}
use Rattle.std.proofs.lemmas.Bool.{leb-true}
use Rattle.std.specs.List.{flat_map}
use Rattle.sql_tokens.specs.declared.mark.Mark.TheVariants as marks
use Rattle.sql_tokens.specs.declared.word.Word.TheVariants as words
use Rattle.sql_tree.specs.declared.expr.Expr.{Expr}
use Rattle.sql_tree.specs.declared.statement.Cell.{Cell}
use Rattle.sql_tree.specs.declared.statement.Cell.TheVariants.{Fill, Given}
use Rattle.sql_tree.specs.declared.statement.Delete.{Delete}
use Rattle.sql_tree.specs.declared.statement.Insert.{Insert}
use Rattle.sql_tree.specs.declared.statement.OrderItem.{OrderItem}
use Rattle.sql_tree.specs.declared.statement.Select.{Select}
use Rattle.sql_tree.specs.declared.statement.SelectItem.{SelectItem}
use Rattle.sql_tree.specs.declared.statement.SelectList.{SelectList}
use Rattle.sql_tree.specs.declared.statement.SelectList.TheVariants as list
use Rattle.sql_tree.specs.declared.statement.SetItem.{SetItem}
use Rattle.sql_tree.specs.declared.statement.Statement.{Statement}
use Rattle.sql_tree.specs.declared.statement.Statement.TheVariants as statement
use Rattle.sql_tree.specs.declared.statement.Update.{Update}
use Rattle.sql_print.specs.Spelling.{Lexeme, word, mark, name}
use Rattle.sql_print.specs.Printed.{cell_tokens, column, columns_tokens, direction, expr_tokens, item_tokens, joined, list_tokens, optional, order_item_tokens, order_tokens, row_tokens, set_tokens, tokens_of, update_lock, where_tokens}
use Rattle.sql_profile.proofs.Each.{Each, each_map}
use Rattle.sql_profile.specs.Numbers.{expressions, of_cell, of_list, of_option}
use Rattle.sql_profile.specs.Writable.{AreWritable, IsWritable}
use Rattle.statement_laws.proofs.Written.{Fine, writable_append, writable_enclosed, writable_joined}

-- the name may be written
abbrev pub IsNamed : List ℕ → Type 0
IsNamed text = IsWritable (name text)

abbrev pub OptionFine : Option Expr → Type 0
OptionFine o = Each Fine (of_option o)

abbrev as_tokens : List ℕ → List Lexeme
as_tokens called = word words.As ∷ name called ∷ []

-- an item, and what AS says of it
abbrev pub ItemFine : SelectItem → Type 0
ItemFine item = Fine item.expr × AreWritable (optional as_tokens item.name)

abbrev pub ListFine : SelectList → Type 0
ListFine list.Star = Unit {0}
ListFine list.Count = Unit {0}
ListFine (list.Items items) = Each ItemFine items

abbrev pub OrderFine : OrderItem → Type 0
OrderFine item = AreWritable (column item.qualifier item.column)

abbrev pub CellFine : Cell → Type 0
CellFine Fill = Unit {0}
CellFine (Given e) = Fine e

abbrev pub SetFine : SetItem → Type 0
SetFine item = IsNamed item.column × Fine item.expr

-- its whole numbers are of int8, and its tokens may be written
abbrev pub Whole : Statement → Type 0
Whole s = Each Fine (expressions s) × AreWritable (tokens_of s)

pub each_append : {A : Type 0} (P : A → Type 0) (xs ys : List A) → Each P xs → Each P ys → Each P (xs ++ ys)
each_append P [] ys first second = second
each_append P (x ∷ xs) ys first second = (first.0, each_append P xs ys first.1 second)

-- ---- parts

where_writable : (o : Option Expr) → OptionFine o → AreWritable (where_tokens o)
where_writable None fine = tt
where_writable (Some e) fine = (tt, (fine.0).1)

limit_writable : (o : Option Expr) → OptionFine o → AreWritable (optional (λ limit. word words.Limit ∷ expr_tokens limit) o)
limit_writable None fine = tt
limit_writable (Some e) fine = (tt, (fine.0).1)

items_fine : (items : List SelectItem) → Each ItemFine items → Each Fine (map (λ item. item.expr) items)
items_fine [] each = tt
items_fine (item ∷ items) each = ((each.0).0, items_fine items each.1)

list_fine : (l : SelectList) → ListFine l → Each Fine (of_list l)
list_fine list.Star fine = tt
list_fine list.Count fine = tt
list_fine (list.Items items) fine = items_fine items fine

item_writable : (item : SelectItem) → ItemFine item → AreWritable (item_tokens item)
item_writable item fine = writable_append (expr_tokens item.expr) (optional as_tokens item.name) (fine.0).1 fine.1

list_writable : (l : SelectList) → ListFine l → AreWritable (list_tokens l)
list_writable list.Star fine = (tt, tt)
list_writable list.Count fine = ((refl, leb-true (length (codes "count")) 63 refl), (tt, (tt, (tt, tt))))
list_writable (list.Items items) fine = writable_joined (mark marks.Comma) tt item_tokens items (each_map item_writable items fine)

direction_writable : (falling : Truth) → AreWritable (direction falling)
direction_writable true = (tt, tt)
direction_writable false = tt

order_item_writable : (item : OrderItem) → OrderFine item → AreWritable (order_item_tokens item)
order_item_writable item fine = writable_append (column item.qualifier item.column) (direction item.falling) fine (direction_writable item.falling)

order_writable : (items : List OrderItem) → Each OrderFine items → AreWritable (order_tokens items)
order_writable [] each = tt
order_writable (item ∷ items) each = (tt, (tt, writable_joined (mark marks.Comma) tt order_item_tokens (item ∷ items) (each_map order_item_writable (item ∷ items) each)))

lock_writable : (lock : Truth) → AreWritable (update_lock lock)
lock_writable true = (tt, (tt, tt))
lock_writable false = tt

abbrev pub TableNamed : Option (List ℕ) → Type 0
TableNamed None = Unit {0}
TableNamed (Some table) = IsNamed table

from_writable : (o : Option (List ℕ)) → TableNamed o → AreWritable (optional (λ table. word words.From ∷ name table ∷ []) o)
from_writable None named = tt
from_writable (Some table) named = (tt, (named, tt))

-- ---- statements

pub select_whole : (select : Select) → ListFine select.list → TableNamed select.table → OptionFine select.filter → Each OrderFine select.order → OptionFine select.limit
    → Whole (statement.Select select)
select_whole select items named filtered ordered limited =
    let lock = update_lock select.for_update in
    let limit = optional (λ limit. word words.Limit ∷ expr_tokens limit) select.limit in
    let order = order_tokens select.order in
    let filter = where_tokens select.filter in
    let table = optional (λ table. word words.From ∷ name table ∷ []) select.table in (
      each_append Fine (of_list select.list) (of_option select.filter ++ of_option select.limit) (list_fine select.list items)
          (each_append Fine (of_option select.filter) (of_option select.limit) filtered limited),
      (
        tt,
        writable_append (list_tokens select.list) (table ++ (filter ++ (order ++ (limit ++ lock)))) (list_writable select.list items)
            (writable_append table (filter ++ (order ++ (limit ++ lock))) (from_writable select.table named)
            (writable_append filter (order ++ (limit ++ lock)) (where_writable select.filter filtered)
            (writable_append order (limit ++ lock) (order_writable select.order ordered)
            (writable_append limit lock (limit_writable select.limit limited) (lock_writable select.for_update))))),
      ),
    )

cells_fine : (cells : List Cell) → Each CellFine cells → Each Fine (flat_map of_cell cells)
cells_fine [] each = tt
cells_fine (Fill ∷ cells) each = cells_fine cells each.1
cells_fine (Given e ∷ cells) each = (each.0, cells_fine cells each.1)

rows_fine : (rows : List (List Cell)) → Each (λ cells. Each CellFine cells) rows → Each Fine (flat_map (λ cells. flat_map of_cell cells) rows)
rows_fine [] each = tt
rows_fine (cells ∷ rows) each =
    each_append Fine (flat_map of_cell cells) (flat_map (λ cells. flat_map of_cell cells) rows) (cells_fine cells each.0) (rows_fine rows each.1)

cell_writable : (c : Cell) → CellFine c → AreWritable (cell_tokens c)
cell_writable Fill fine = (tt, tt)
cell_writable (Given e) fine = fine.1

row_writable : (cells : List Cell) → Each CellFine cells → AreWritable (row_tokens cells)
row_writable cells each =
    writable_enclosed (joined (mark marks.Comma) cell_tokens cells) (writable_joined (mark marks.Comma) tt cell_tokens cells (each_map cell_writable cells each))

columns_writable : (names : List (List ℕ)) → Each IsNamed names → AreWritable (columns_tokens names)
columns_writable names each =
    writable_enclosed (joined (mark marks.Comma) (λ called. name called ∷ []) names)
    (writable_joined (mark marks.Comma) tt (λ called. name called ∷ []) names (each_map (λ called named. (named, tt)) names each))

pub insert_whole : (table : List ℕ) (names : List (List ℕ)) (rows : List (List Cell)) → IsNamed table → Each IsNamed names → Each (λ cells. Each CellFine cells) rows
    → Whole (statement.Insert (record { table = table; columns = Some names; rows = rows }))
insert_whole table names rows named each fine = (
  rows_fine rows fine,
  (
    tt,
    (
      tt,
      (
        named,
        writable_append (columns_tokens names) (word words.Values ∷ joined (mark marks.Comma) row_tokens rows) (columns_writable names each)
            (tt, writable_joined (mark marks.Comma) tt row_tokens rows (each_map row_writable rows fine)),
      ),
    ),
  ),
)

sets_fine : (sets : List SetItem) → Each SetFine sets → Each Fine (map (λ item. item.expr) sets)
sets_fine [] each = tt
sets_fine (item ∷ sets) each = ((each.0).1, sets_fine sets each.1)

set_writable : (item : SetItem) → SetFine item → AreWritable (set_tokens item)
set_writable item fine = (fine.0, (tt, fine.1.1))

pub update_whole : (update : Update) → IsNamed update.table → Each SetFine update.sets → OptionFine update.filter → Whole (statement.Update update)
update_whole update named each filtered = (
  each_append Fine (map (λ item. item.expr) update.sets) (of_option update.filter) (sets_fine update.sets each) filtered,
  (
    tt,
    (
      named,
      (
        tt,
        writable_append (joined (mark marks.Comma) set_tokens update.sets) (where_tokens update.filter)
            (writable_joined (mark marks.Comma) tt set_tokens update.sets (each_map set_writable update.sets each)) (where_writable update.filter filtered),
      ),
    ),
  ),
)

pub delete_whole : (delete : Delete) → IsNamed delete.table → OptionFine delete.filter → Whole (statement.Delete delete)
delete_whole delete named filtered = (filtered, (tt, (tt, (named, where_writable delete.filter filtered))))
