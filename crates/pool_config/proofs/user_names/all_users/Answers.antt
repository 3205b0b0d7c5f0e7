use Rattle.std.proofs.Common.{refl}
use Rattle.pool_config.proofs.UserNumbers.{users_are}
use Rattle.pool_config.proofs.user_names.all_users.Goals as goal

pub returns : goal.returns
returns c = users_are _ _ _ _ _ _ _ _ _ _ _ _ _ _ _ _ refl refl refl refl refl refl refl refl refl refl refl refl refl refl refl refl
