-- Who gets a session.
use Rattle.std.proofs.Common.{◌≡◌, List, [], ◌∷◌, length, arith}
use Rattle.pool_config.specs.declared.config.ScramUser.{ScramUser}
use Rattle.login.specs.declared.candidate.User.{User}
use Rattle.tcp_server.specs.Askings.{IsLetIn, MayBegin}

pub begins_with_nobody : (said : List ScramUser) (users : List User) → length said ≡ 0 → MayBegin said users
begins_with_nobody [] users none = tt
begins_with_nobody (one ∷ more) users none = absurd (omega arith)

pub begins_let_in : (said : List ScramUser) (users : List User) → IsLetIn users → MayBegin said users
begins_let_in [] users entered = tt
begins_let_in (one ∷ more) users entered = entered
