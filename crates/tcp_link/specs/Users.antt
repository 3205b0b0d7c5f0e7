-- The users of a configuration, with the verifiers that their texts are.
use Rattle.std.specs.Prelude.{◌≡◌, ◌⊎◌, ℕ, List, [], ◌∷◌, ◌++◌}
use Rattle.pool_config.specs.declared.config.ScramUser.{ScramUser}
use Rattle.scram.specs.Verifiers.{IsTextOf}
use Rattle.scram.specs.declared.verifier.Verifier.{Verifier}
use Rattle.login.specs.declared.candidate.User.{User}

-- a user of the configuration, with the verifier that its text is
pub record IsUserOf (said : ScramUser) (user : User) : Type 0 where
  pub name : user.name ≡ said.name
  pub verifier : IsTextOf said.verifier user.verifier

-- a list of one user
abbrev pub one_user : List ℕ → Verifier → List User
one_user name verifier = record { name = name; verifier = verifier } ∷ []

-- the text of the verifier is none
abbrev pub HasNoVerifier : ScramUser → Type 0
HasNoVerifier said = (verifier : Verifier) → IsTextOf said.verifier verifier → ⊥

-- the users of a configuration in their order, but those whose verifier is none
abbrev pub AreUsersOf : List ScramUser → List User → Type 0
AreUsersOf [] users = users ≡ []
AreUsersOf (said ∷ more) users =
    (HasNoVerifier said × AreUsersOf more users)
    ⊎ ((user : User) × (rest : List User) × IsUserOf said user × (users ≡ user ∷ rest) × AreUsersOf more rest)

-- the users before one of the configuration and with it
abbrev pub Adds : ScramUser → List User → List User → Type 0
Adds said old new = (HasNoVerifier said × (new ≡ old)) ⊎ ((user : User) × IsUserOf said user × (new ≡ old ++ user ∷ []))
