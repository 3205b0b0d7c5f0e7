use Rattle.std.proofs.Common.{arith}
use Rattle.postgres_link.proofs.Cells.{all_read, cut_off}
use Rattle.postgres_link.proofs.row.cells_of.Goals as goal

pub returns-then-kinds_left-eq0 : goal.returns-then-kinds_left-eq0
returns-then-kinds_left-eq0 c = all_read c.args.kinds.now c.args.texts.now c.columns.cells c.columns.kinds_left.now c.columns.texts_left.now c.columns.invariant (omega arith) (omega arith)

pub returns-then-texts_left-eq0 : goal.returns-then-texts_left-eq0
returns-then-texts_left-eq0 c = cut_off c.args.kinds.now c.args.texts.now c.columns.cells c.columns.kinds_left.now c.columns.texts_left.now c.columns.invariant (omega arith) (omega arith)
