use Rattle.model_store.proofs.WorkLaws.{begun_live}
use Rattle.model_store.proofs.transaction.begun.Goals as goal

pub returns-clause-live : goal.returns-clause-live
returns-clause-live c = begun_live c.args.log.now c.new.result.items c.new-2.result.items 256 c.new.ensures.items c.new-2.ensures.items
