use Rattle.std.proofs.Common.{refl}
use Rattle.model_store.proofs.WorkLaws.{same_live}
use Rattle.model_store.proofs.waiting.make_room.Goals as goal

pub returns-in_err-make_space-clause-live : goal.returns-in_err-make_space-clause-live
returns-in_err-make_space-clause-live c = λ log. same_live log c.args.work.now c.make_space.new.items.items c.args.work.now.held.items c.make_space.ensures.items refl

pub returns-in_err-make_space-2-clause-live : goal.returns-in_err-make_space-2-clause-live
returns-in_err-make_space-2-clause-live c = λ log.
    same_live log c.args.work.now c.make_space.new.items.items c.make_space-2.new.items.items c.make_space.ensures.items c.make_space-2.ensures.items

pub returns-clause-live : goal.returns-clause-live
returns-clause-live c = λ log. same_live log c.args.work.now c.make_space.new.items.items c.make_space-2.new.items.items c.make_space.ensures.items c.make_space-2.ensures.items
