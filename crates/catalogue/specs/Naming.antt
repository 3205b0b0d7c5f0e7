-- The name of a column of a result.
use Rattle.std.specs.Prelude.{List, ℕ, Option, Some, None, codes}
use Rattle.sql_tree.specs.declared.expr.Expr.{Expr}
use Rattle.sql_tree.specs.declared.expr.Expr.TheVariants.{Bool, Column, CurrentTimestamp, Now, TransactionTimestamp, Moment}

-- the name of an item without AS
abbrev pub own_name : Expr → List ℕ
own_name (Column qualifier name) = name
own_name Now = codes "now"
own_name TransactionTimestamp = codes "transaction_timestamp"
own_name CurrentTimestamp = codes "current_timestamp"
own_name (Bool truth) = codes "bool"
own_name (Moment text) = codes "timestamptz"
own_name _ = codes "?column?"

-- AS names it, else the expression does
abbrev pub item_name : Option (List ℕ) → Expr → List ℕ
item_name (Some name) e = name
item_name None e = own_name e
