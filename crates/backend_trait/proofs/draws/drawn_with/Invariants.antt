use Rattle.std.proofs.Common.{◌≡◌, ◌+◌, ◌≤◌, drop}
use Rattle.sql_eval.specs.Inserts.{row_draws}
use Rattle.backend_trait.proofs.draws.drawn_with.Given as goal

abbrev pub invariant-loop-cell : goal.invariant-loop-cell
invariant-loop-cell l = (l.all ≤ 4294967295) × (l.all + row_draws (drop l.cell-index l.row) ≡ l.drawn + row_draws l.row)
