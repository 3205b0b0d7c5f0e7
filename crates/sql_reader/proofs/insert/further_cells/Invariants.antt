use Rattle.std.proofs.Common.{◌≤◌, length}
use Rattle.sql_tokens.specs.Grammar.{part}
use Rattle.sql_tokens.specs.Reading.{tails}
use Rattle.sql_tokens.proofs.Loops.{Going}
use Rattle.sql_expr.specs.Reading.{after_comma}
use Rattle.sql_reader.specs.Reading.{cell_at}
use Rattle.sql_reader.proofs.insert.further_cells.Given as goal

abbrev pub invariant-loop-after : goal.invariant-loop-after
invariant-loop-after l = record { going : Going after_comma part (cell_at 64) l.parts l.rest (tails after_comma part (cell_at 64) l.tokens); short : length l.rest ≤ length l.tokens }

abbrev pub decreases-loop-after : goal.decreases-loop-after
decreases-loop-after l = length l.rest
