use Rattle.model_store.proofs.ConflictLaws.{lock_told, place_told}
use Rattle.model_store.proofs.conflict.holds_table.Goals as goal

pub returns-then-work-from : goal.returns-then-work-from
returns-then-work-from c = lock_told c.args.work.now c.args.table c.from.result c.from.ensures c.if-work-from.true

pub returns-else-work-from : goal.returns-else-work-from
returns-else-work-from c =
    place_told c.args.work.now c.args.table c.from.result c.as_slice.result.now c.has_spot_in.result c.from.ensures c.if-work-from.false c.as_slice.ensures.value c.has_spot_in.ensures
