use Rattle.model_store.proofs.WorkLaws.{with_changes_live}
use Rattle.model_store.proofs.transaction.take_changes.Goals as goal

pub returns-clause-live : goal.returns-clause-live
returns-clause-live c = λ log. with_changes_live log c.args.work.now c.args.more.items c.args.places.items c.put_all.new.items.items c.put_all-2.new.items.items c.put_all.ensures.items c.put_all-2.ensures.items
