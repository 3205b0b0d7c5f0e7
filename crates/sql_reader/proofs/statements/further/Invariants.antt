use Rattle.std.proofs.Common.{◌≤◌, length}
use Rattle.sql_reader.specs.TextReading.{further_at}
use Rattle.sql_reader.proofs.Loop.{Going}
use Rattle.sql_reader.proofs.statements.further.Given as goal

abbrev pub invariant-loop-after : goal.invariant-loop-after
invariant-loop-after l = record { going : Going 64 l.all l.rest (further_at 64 l.fn.statements l.tokens); short : length l.rest ≤ length l.tokens }

abbrev pub decreases-loop-after : goal.decreases-loop-after
decreases-loop-after l = length l.rest
