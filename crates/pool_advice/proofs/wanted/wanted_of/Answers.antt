use Rattle.pool_advice.proofs.Finding.{of_user}
use Rattle.pool_advice.proofs.wanted.wanted_of.Goals as goal

pub returns-in-None-numbered_wanted : goal.returns-in-None-numbered_wanted
returns-in-None-numbered_wanted c = of_user c.args.name.now _ c.in-None.ensures c.in-None-numbered_wanted.ensures c.user_wanted.ensures
