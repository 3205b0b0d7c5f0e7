use Rattle.plain_store.proofs.StepLaws.{locked_live_by}
use Rattle.plain_store.proofs.steps.locked_work.Goals as goal

pub returns : goal.returns
returns c =
    let work = c.args.work in
    locked_live_by work.base.items work.own.changes.items work.held.items work.tables c.push.new.self work.stale.items c.args.table c.in_ok-push.ensures.ok
