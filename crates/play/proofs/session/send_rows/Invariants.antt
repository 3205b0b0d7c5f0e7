use Rattle.std.proofs.Common.{take}
use Rattle.play.proofs.RowLemmas.{RowsSent}
use Rattle.play.proofs.session.send_rows.Given as goal

abbrev pub invariant-loop-row : goal.invariant-loop-row
invariant-loop-row l = RowsSent (take l.row-index l.rows) l.initial.output l.output
