use Rattle.std.proofs.Common.{rules}
use Rattle.login.proofs.Going.{admitted_so}
use Rattle.login.proofs.entrance.step.Goals as goal

pub returns-in-LetsIn-clause-goes : goal.returns-in-LetsIn-clause-goes
returns-in-LetsIn-clause-goes g c =
    admitted_so c.args.guard.users.now _ _ c.args.inbox.now _ c.rest_of-rest.result.now _ c.in-LetsIn.taken c.in-LetsIn.told _ c.in-LetsIn.start _ _ _ c.in_ok-admit-in-LetsIn.field-0
    c.in_ok-hear.ensures.step c.in-LetsIn.is (search rules) (search rules) (search rules) c.in_ok-admit-in-LetsIn.ensures.so
