-- Which statements have a text whose tokens can be read.
use Rattle.std.specs.Prelude.{◌≤◌, ◌<◌, ◌^◌, length, All}
use Rattle.sql_tree.specs.declared.statement.Statement.{Statement}
use Rattle.sql_tree.specs.declared.statement.Statement.TheVariants as statement
use Rattle.sql_print.specs.Printed.{tokens_of}
use Rattle.sql_profile.specs.Lexemes.{AreLexemes}
use Rattle.sql_profile.specs.Numbers.{expressions, greatest_number}

-- a backend's number is 0 to 255
abbrev pub IsBackend : Statement → Type 0
IsBackend (statement.Recover backend) = backend ≤ 255
IsBackend _ = Unit {0}

-- a text can have each of its tokens and has room for all; its whole numbers are of int8, and that of a backend is 0 to 255
pub record Fits (s : Statement) : Type 0 where
  pub lexemes : AreLexemes (tokens_of s)
  pub count : length (tokens_of s) ≤ 65536
  pub numbers : All (λ expr. greatest_number expr < 2 ^ 63) (expressions s)
  pub backend : IsBackend s
