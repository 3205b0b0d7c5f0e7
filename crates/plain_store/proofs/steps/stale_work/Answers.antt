use Rattle.plain_store.proofs.StepLaws.{stale_live_by}
use Rattle.plain_store.proofs.steps.stale_work.Goals as goal

pub returns : goal.returns
returns c =
    let work = c.args.work in
    stale_live_by work.base.items work.own.changes.items work.held.items work.tables work.stale.items c.push.new.self.items c.args.set c.in_ok-push.ensures.items
