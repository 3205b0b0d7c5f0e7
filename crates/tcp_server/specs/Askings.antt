-- Who gets a session: anybody where no user has a password, and else who has come in by the steps of a login.
use Rattle.std.specs.Prelude.{ℕ, Bool, false, List, [], ◌∷◌, None}
use Rattle.pool_config.specs.declared.config.ScramUser.{ScramUser}
use Rattle.login.specs.declared.candidate.User.{User}
use Rattle.login.specs.declared.reception.Reception.TheVariants.{Greeted}
use Rattle.login.specs.declared.entrance.Entrance.TheVariants.{LetIn}
use Rattle.login.specs.Entrances.{IsEntered}

-- somebody has come in by the steps of a login, from the first byte on
pub record IsLetIn (users : List User) : Type 0 where
  pub nonce : List ℕ
  pub front : List ℕ
  pub ended : Bool
  pub entered : IsEntered users (Greeted false false nonce) None None (LetIn front) ended None None

-- a session may begin: no user has a password, or somebody has come in
abbrev pub MayBegin : List ScramUser → List User → Type 0
MayBegin [] users = Unit {0}
MayBegin (said ∷ more) users = IsLetIn users
