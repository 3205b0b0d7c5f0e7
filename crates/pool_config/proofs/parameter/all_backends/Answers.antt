use Rattle.std.proofs.Common.{refl}
use Rattle.pool_config.proofs.Backends.{backends_are}
use Rattle.pool_config.proofs.parameter.all_backends.Goals as goal

pub returns : goal.returns
returns c = backends_are _ _ _ _ _ _ _ _ refl refl refl refl refl refl refl refl
