use Rattle.std.proofs.Common.{◌∙◌, arith, rules}
use Rattle.pool_config.proofs.Backends.{numbered_is}
use Rattle.pool_config.proofs.parameter.numbered_named.Goals as goal

pub returns-in-Some : goal.returns-in-Some
returns-in-Some c = c.of_stem.ensures ∙ numbered_is c.args.name.now _ c.split_at.result.1.now c.in-Some.backend c.split_at.ensures.front c.split_at.ensures.back (search rules) (omega arith) c.in-Some.ensures.number
