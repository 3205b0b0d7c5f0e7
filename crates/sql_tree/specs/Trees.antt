-- Which trees are of the grammar: the trees that texts of the grammar have.
use Rattle.std.specs.Prelude.{◌≡◌, ◌⊎◌, ◌≤◌, ◌<◌, ℕ, ℤ, pos, negsuc, ◌≤ℤ◌, List, [], length, All, false, None, IfSome}
use Rattle.std.specs.List.{AllByRecursion}
use Rattle.sql_tree.specs.declared.expr.Expr.{Expr, Int, Null, Param, Minus}
use Rattle.sql_tree.specs.declared.expr.Expr.TheOpen.{Expr-F}
use Rattle.sql_tree.specs.declared.expr.Expr.TheFolds.{rec-Expr}
use Rattle.sql_tree.specs.declared.statement.Statement.{Statement}
use Rattle.sql_tree.specs.declared.statement.Statement.TheVariants as statement
use Rattle.sql_tree.specs.declared.statement.Select.{Select}
use Rattle.sql_tree.specs.declared.statement.SelectList.{SelectList}
use Rattle.sql_tree.specs.declared.statement.SelectList.TheVariants.{Star, Count, Items}
use Rattle.sql_tree.specs.declared.statement.SelectItem.{SelectItem}
use Rattle.sql_tree.specs.declared.statement.OrderItem.{OrderItem}
use Rattle.sql_tree.specs.declared.statement.Insert.{Insert}
use Rattle.sql_tree.specs.declared.statement.Cell.{Cell}
use Rattle.sql_tree.specs.declared.statement.Cell.TheVariants.{Fill, Given}
use Rattle.sql_tree.specs.declared.statement.Update.{Update}
use Rattle.sql_tree.specs.declared.statement.SetItem.{SetItem}
use Rattle.sql_tree.specs.declared.statement.Delete.{Delete}

-- a text that a string can hold: none of its bytes is 0
abbrev pub IsString : List ℕ → Type 0
IsString text = All (λ byte. 0 < byte) text

-- a text that can be a name: such a text with a byte
abbrev pub IsName : List ℕ → Type 0
IsName text = (0 < length text) × IsString text

-- the least int8
abbrev pub least : ℤ
least = negsuc 9223372036854775807

-- a whole number as a tree has it: what stands in a text, or the least int8
abbrev pub IsLiteral : ℤ → Type 0
IsLiteral number = (pos 0 ≤ℤ number) ⊎ (number ≡ least)

-- a list with all its parts of the grammar, and at least this many
abbrev pub AreParts : {X : Type 0} → (X → Type 0) → ℕ → List X → Type 0
AreParts IsPart least_count parts = (least_count ≤ length parts) × AllByRecursion IsPart parts

-- one layer of an expression, where it is said of each part whether it is of the grammar
abbrev pub IsLayer : {X P S : Type 0} → (X → Type 0) → (P → Type 0) → (S → Type 0) → Expr-F X P S → Type 0
IsLayer IsPart IsFactor IsSummand (Expr-F.Or parts) = AreParts IsPart 2 parts
IsLayer IsPart IsFactor IsSummand (Expr-F.And parts) = AreParts IsPart 2 parts
IsLayer IsPart IsFactor IsSummand (Expr-F.Not part) = IsPart part
IsLayer IsPart IsFactor IsSummand (Expr-F.IsNull part tests) = IsPart part × (1 ≤ length tests)
IsLayer IsPart IsFactor IsSummand (Expr-F.Compare how left right) = IsPart left × IsPart right
IsLayer IsPart IsFactor IsSummand (Expr-F.Member part negated entries) = IsPart part × AreParts IsPart 1 entries
IsLayer IsPart IsFactor IsSummand (Expr-F.Concat parts) = AreParts IsPart 2 parts
IsLayer IsPart IsFactor IsSummand (Expr-F.Sum part summands) = IsPart part × AreParts IsSummand 1 summands
IsLayer IsPart IsFactor IsSummand (Expr-F.Product part factors) = IsPart part × AreParts IsFactor 1 factors
IsLayer IsPart IsFactor IsSummand (Expr-F.Minus part) = IsPart part
IsLayer IsPart IsFactor IsSummand (Expr-F.Int number) = IsLiteral number
IsLayer IsPart IsFactor IsSummand (Expr-F.Str text) = IsString text
IsLayer IsPart IsFactor IsSummand (Expr-F.Bool truth) = Unit {0}
IsLayer IsPart IsFactor IsSummand Expr-F.Null = Unit {0}
IsLayer IsPart IsFactor IsSummand (Expr-F.Param number) = 1 ≤ number
IsLayer IsPart IsFactor IsSummand (Expr-F.Column qualifier name) = IfSome qualifier IsName × IsName name
IsLayer IsPart IsFactor IsSummand Expr-F.CurrentTimestamp = Unit {0}
IsLayer IsPart IsFactor IsSummand Expr-F.Now = Unit {0}
IsLayer IsPart IsFactor IsSummand Expr-F.TransactionTimestamp = Unit {0}
IsLayer IsPart IsFactor IsSummand (Expr-F.Moment text) = IsString text

-- an expression of the grammar: each of its layers is
abbrev pub IsTree : Expr → Type 0
IsTree = rec-Expr (Type 0) (Type 0) (Type 0)
    (λ X P S expr factor summand IsPart IsFactor IsSummand layer. IsLayer IsPart IsFactor IsSummand layer)
    (λ X P S expr factor summand IsPart IsFactor IsSummand layer. IsPart layer.part)
    (λ X P S expr factor summand IsPart IsFactor IsSummand layer. IsPart layer.part)

-- a limit: a whole number, which a minus may stand before, NULL or a parameter
abbrev pub IsLimit : Expr → Type 0
IsLimit limit =
    ((number : ℤ) × (IsLiteral number × (limit ≡ Int number)))
    ⊎ (((number : ℤ) × ((pos 0 ≤ℤ number) × (limit ≡ Minus (Int number))))
    ⊎ ((limit ≡ Null)
    ⊎ ((number : ℕ) × ((1 ≤ number) × (limit ≡ Param number)))))

abbrev pub IsItem : SelectItem → Type 0
IsItem item = IsTree item.expr × IfSome item.name IsName

abbrev pub IsList : SelectList → Type 0
IsList Star = Unit {0}
IsList Count = Unit {0}
IsList (Items items) = AreParts IsItem 1 items

abbrev pub IsOrder : OrderItem → Type 0
IsOrder item = IfSome item.qualifier IsName × IsName item.column

-- what may stand without a table: expressions, and nothing behind them
pub record IsAlone (select : Select) : Type 0 where
  pub items : (given : List SelectItem) × (select.list ≡ Items given)
  pub filter : select.filter ≡ None
  pub order : select.order ≡ []
  pub limit : select.limit ≡ None
  pub for_update : select.for_update ≡ false

pub record IsSelect (select : Select) : Type 0 where
  pub given : IsList select.list
  pub table : IfSome select.table IsName
  pub filter : IfSome select.filter IsTree
  pub order : All IsOrder select.order
  pub limit : IfSome select.limit IsLimit
  pub alone : select.table ≡ None → IsAlone select

abbrev pub IsCell : Cell → Type 0
IsCell Fill = Unit {0}
IsCell (Given expr) = IsTree expr

abbrev pub IsRow : List Cell → Type 0
IsRow cells = AreParts IsCell 1 cells

pub record IsInsert (insert : Insert) : Type 0 where
  pub table : IsName insert.table
  pub columns : IfSome insert.columns (λ names. AreParts IsName 1 names)
  pub rows : AreParts IsRow 1 insert.rows

abbrev pub IsSet : SetItem → Type 0
IsSet item = IsName item.column × IsTree item.expr

pub record IsUpdate (update : Update) : Type 0 where
  pub table : IsName update.table
  pub sets : AreParts IsSet 1 update.sets
  pub filter : IfSome update.filter IsTree

pub record IsDelete (delete : Delete) : Type 0 where
  pub table : IsName delete.table
  pub filter : IfSome delete.filter IsTree

-- a statement of the grammar
abbrev pub IsStatement : Statement → Type 0
IsStatement (statement.Select select) = IsSelect select
IsStatement (statement.Insert insert) = IsInsert insert
IsStatement (statement.Update update) = IsUpdate update
IsStatement (statement.Delete delete) = IsDelete delete
IsStatement statement.Begin = Unit {0}
IsStatement statement.Commit = Unit {0}
IsStatement statement.Rollback = Unit {0}
IsStatement statement.ShowNodes = Unit {0}
IsStatement (statement.Recover backend) = Unit {0}
