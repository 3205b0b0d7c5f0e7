use Rattle.std.proofs.Common.{◌≡◌, ◌+◌, drop}
use Rattle.sql_eval.specs.Inserts.{all_draws}
use Rattle.sql_eval.proofs.insert.all_draws.Given as goal

abbrev pub invariant-loop-row : goal.invariant-loop-row
invariant-loop-row l = l.count + all_draws (drop l.row-index l.rows) ≡ all_draws l.rows
