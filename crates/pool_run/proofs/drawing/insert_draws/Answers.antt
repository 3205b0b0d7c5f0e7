use Rattle.std.proofs.Common.{sym, subst}
use Rattle.std.specs.Prelude.{None, Err, Result}
use Rattle.pool_run.proofs.DrawingLemmas.{insert_checked, insert_refused}
use Rattle.pool_run.proofs.drawing.insert_draws.Goals as goal

pub returns-in-Ok : goal.returns-in-Ok
returns-in-Ok c =
    insert_checked c.args.tables.now c.args.one.now c.in-Ok.checked c.is_serial.result c.in-Ok.ensures c.is_serial.ensures
    (c.checks_agree.ensures c.args.tables.now c.args.one.now None)

pub returns-in-Err-Refused : goal.returns-in-Err-Refused
returns-in-Err-Refused c =
    insert_refused c.args.tables.now c.args.one.now c.in-Err-Refused.field-0-0 c.in-Err-Refused.field-0-1 (rw c.in-Err-Refused.field-0-is at c.in-Err-Refused.ensures)
    (λ checked is. c.none_is_checked_and_refused.ensures c.args.tables.now c.args.one.now None checked c.in-Err-Refused.field-0-0 c.in-Err-Refused.field-0-1 is
    (rw c.in-Err-Refused.field-0-is at c.in-Err-Refused.ensures))
