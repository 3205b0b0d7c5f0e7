-- Statements as a text can have them: of the grammar, with short names, and with no more rows than a text has tokens.
use Rattle.std.specs.Prelude.{◌≤◌, length, IfSome}
use Rattle.std.specs.List.{AllByRecursion}
use Rattle.sql_tree.specs.declared.statement.SelectItem.{SelectItem}
use Rattle.sql_tree.specs.declared.statement.SelectList.{SelectList}
use Rattle.sql_tree.specs.declared.statement.SelectList.TheVariants.{Star, Count, Items}
use Rattle.sql_tree.specs.declared.statement.Statement.{Statement}
use Rattle.sql_tree.specs.declared.statement.Statement.TheVariants as statement
use Rattle.sql_tree.specs.Trees.{IsStatement}

-- the name that AS gives an item has at most 63 bytes
abbrev pub IsShortItem : SelectItem → Type 0
IsShortItem item = IfSome item.name (λ name. length name ≤ 63)

abbrev pub IsShortList : SelectList → Type 0
IsShortList Star = Unit {0}
IsShortList Count = Unit {0}
IsShortList (Items items) = AllByRecursion IsShortItem items

abbrev pub HasShortNames : Statement → Type 0
HasShortNames (statement.Select select) = IsShortList select.list
HasShortNames _ = Unit {0}

-- a text has 65536 tokens at most
abbrev pub HasFewRows : Statement → Type 0
HasFewRows (statement.Insert insert) = length insert.rows ≤ 65537
HasFewRows _ = Unit {0}

abbrev pub IsFormed : Statement → Type 0
IsFormed s = IsStatement s × HasShortNames s × HasFewRows s
