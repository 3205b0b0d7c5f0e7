use Rattle.backend_trait.specs.declared.answer.Answer.TheVariants as answers
use Rattle.plain_store.proofs.StepLaws.{given_live_by}
use Rattle.plain_store.proofs.steps.with_changes.Goals as goal

pub returns : goal.returns
returns c =
    let work = c.args.work in
    given_live_by work.base.items work.own.changes.items c.args.changes.items c.append.new.self.items work.held.items c.args.places.items c.append-2.new.self.items work.tables work.stale.items answers.Done
    c.in_ok-append.ensures.items c.in_ok-append-2.ensures.items
