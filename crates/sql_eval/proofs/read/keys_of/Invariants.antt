use Rattle.std.proofs.Common.{◌≡◌, map, take}
use Rattle.sql_eval.specs.Views.{cell_at}
use Rattle.sql_eval.proofs.read.keys_of.Given as goal

abbrev pub invariant-loop-row : goal.invariant-loop-row
invariant-loop-row l = l.keys ≡ map (λ r. cell_at l.key r.now) (take l.row-index l.rows)
