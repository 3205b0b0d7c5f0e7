-- What is read of a text is of the grammar, with short names and few rows.
use Rattle.std.proofs.Common.{◌≡◌, ℕ, List, [], ◌∷◌}
use Rattle.std.specs.List.{AllByRecursion}
use Rattle.sql_tree.specs.declared.statement.Statement.{Statement}
use Rattle.sql_tree.specs.Trees.{IsStatement}
use Rattle.sql_reader.specs.Text.{IsTextOf, tokens_of}
use Rattle.sql_profile.specs.Formed.{HasFewRows, HasShortNames, IsFormed}
use Rattle.sql_profile.proofs.FormedClean.{text_clean}
use Rattle.sql_profile.proofs.FormedStatements.{text_few, text_named}
use Rattle.sql_profile.proofs.Tokens.{text_good}

joined : (all : List Statement) → AllByRecursion (λ s. IsStatement s × HasShortNames s) all → AllByRecursion HasFewRows all → AllByRecursion IsFormed all
joined [] named few = tt
joined (s ∷ all) named few = ((named.0.0, named.0.1, few.0), joined all named.1 few.1)

pub texts_are_formed : (text : List ℕ) (all : List Statement) → IsTextOf text all → AllByRecursion IsFormed all
texts_are_formed text all (placed, tokens, (within, count, from)) =
    let good = text_good text placed tokens (text_clean 64 (tokens_of placed) all within) in
    joined all (text_named 64 (tokens_of placed) all within good.0 from) (text_few 64 (tokens_of placed) all within good.0 good.1)
