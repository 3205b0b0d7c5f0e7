use Rattle.std.proofs.Common.{◌≡◌, ◌+◌, ◌≤◌, drop}
use Rattle.sql_eval.specs.Inserts.{all_draws}
use Rattle.backend_trait.proofs.draws.all_drawn.Given as goal

abbrev pub invariant-loop-row : goal.invariant-loop-row
invariant-loop-row l = (l.drawn ≤ 4294967295) × (l.drawn + all_draws (drop l.row-index l.rows) ≡ all_draws l.rows)
