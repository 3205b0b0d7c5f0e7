use Rattle.std.proofs.Common.{sym}
use Rattle.pool_config.proofs.UserNumbers.{user_there}
use Rattle.pool_config.proofs.user_names.with_number.Goals as goal

pub returns : goal.returns
returns c = sym (user_there _)
