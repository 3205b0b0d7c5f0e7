-- How many rows a statement has.
use Rattle.std.specs.Prelude.{◌<◌, length}
use Rattle.sql_tree.specs.declared.statement.Statement.{Statement}
use Rattle.sql_tree.specs.declared.statement.Statement.TheVariants as statement

-- an INSERT has fewer than 4294967296 rows
abbrev pub HasFewRows : Statement → Type 0
HasFewRows (statement.Insert insert) = length insert.rows < 4294967296
HasFewRows _ = Unit {0}
