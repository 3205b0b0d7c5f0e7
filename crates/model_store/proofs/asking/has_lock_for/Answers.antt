use Rattle.model_store.specs.Phases.{held_of}
use Rattle.model_store.proofs.AskLaws.{lock_none, lock_some}
use Rattle.model_store.proofs.asking.has_lock_for.Goals as goal

pub returns-in-None : goal.returns-in-None
returns-in-None c = lock_none (held_of c.args.work.now) _ c.lock_of.result c.lock_of.ensures c.in-None.is

pub returns-in-Some : goal.returns-in-Some
returns-in-Some c = lock_some c.args.work.now _ c.lock_of.result c.in-Some.table c.from.result c.lock_of.ensures c.in-Some.is c.from.ensures
