use Rattle.pool_advice.proofs.Giving.{ends_so}
use Rattle.pool_advice.proofs.missing.missing_names.Goals as goal

pub returns-in-None : goal.returns-in-None
returns-in-None c = ends_so c.args.text.now c.loop.all c.loop.names c.loop.invariant

pub returns : goal.returns
returns c = ends_so c.args.text.now c.loop.all c.loop.names c.loop.invariant
