use Rattle.plain_store.proofs.StepLaws.{begun_live}
use Rattle.plain_store.proofs.steps.begun_work.Goals as goal

pub returns : goal.returns
returns c =
    begun_live c.in_ok-base.base.items c.args.log.now c.new-changes.result.items c.new-held.result.items c.new-tables.result c.new-stale.result.items
    c.in_ok-base.ensures c.new-changes.ensures.items c.new-held.ensures.items c.new-tables.ensures c.new-stale.ensures.items
