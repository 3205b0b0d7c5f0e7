use Rattle.std.proofs.Common.{◌≡◌, ◌-◌, ◌+◌, suc, arith}
use Rattle.std.proofs.lemmas.Result.{err_from_is_err_and}
use Rattle.pgproto.specs.Reading.{items_at, number_at, value_at}
use Rattle.pgproto.proofs.Items.{goes_on, ends, is_done}
use Rattle.pgproto.proofs.lists.kind_items.Goals as goal

pub returns-in_err-item : goal.returns-in_err-item
returns-in_err-item c =
    let p = err_from_is_err_and c.from_residual.result c.from_residual.ensures.1 in
    let left : c.args.count - c.loop-taken.taken ≡ suc (c.args.count - (c.loop-taken.taken + 1)) = omega arith in
    rw (p.1, p.2) (ends c.in_err-item.field-0.0 (number_at 4294967295) c.loop-taken.found.items (c.args.count - c.loop-taken.taken) (c.args.count - (c.loop-taken.taken + 1)) c.loop-taken.rest.now (items_at (number_at 4294967295) c.args.count c.args.bytes.now) c.loop-taken.invariant left c.in_err-item.ensures.gives)

pub loop-taken-preserved : goal.loop-taken-preserved
loop-taken-preserved c =
    let left : c.args.count - c.loop-taken.taken ≡ suc (c.args.count - (c.loop-taken.taken + 1)) = omega arith in
    rw c.in_ok-push.ensures.items (goes_on (number_at 4294967295) c.loop-taken.found.items (c.args.count - c.loop-taken.taken) (c.args.count - (c.loop-taken.taken + 1)) c.loop-taken.rest.now c.in_ok-item.after.now (items_at (number_at 4294967295) c.args.count c.args.bytes.now) c.in_ok-item.item c.loop-taken.invariant left c.in_ok-item.ensures.gives)

pub returns : goal.returns
returns c = is_done (number_at 4294967295) c.loop-taken.found.items (c.args.count - c.loop-taken.taken) c.loop-taken.rest.now (items_at (number_at 4294967295) c.args.count c.args.bytes.now) c.loop-taken.invariant (omega arith)
