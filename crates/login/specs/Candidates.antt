-- Whose password a client is asked for, by the name of its start message.
use Rattle.std.specs.Prelude.{◌≡◌, ℕ, true, false, List, [], ◌∷◌, length, take, min, bytes_eq, Option, None, Some, if◌then◌else◌, codes}
use Rattle.pg_messages.specs.declared.start.Pair.{Pair}
use Rattle.scram.specs.declared.verifier.Verifier.{Verifier}
use Rattle.scram.specs.Mac.{hmac}
use Rattle.login.specs.declared.candidate.User.{User}
use Rattle.login.specs.declared.candidate.Candidate.{Candidate}

-- the names that a start message gives its user
abbrev pub names_in : List Pair → List (List ℕ)
names_in [] = []
names_in (p ∷ rest) = if bytes_eq p.name (codes "user") then p.value ∷ names_in rest else names_in rest

-- the first of the users that has this name
abbrev pub named : List ℕ → List User → Option User
named name [] = None
named name (user ∷ rest) = if bytes_eq user.name name then Some user else named name rest

-- with the verifier of the user of that name, where there is one, and else not a user
abbrev pub IsCandidate : Option User → Candidate → Type 0
IsCandidate None c = c.is_user ≡ false
IsCandidate (Some user) c = (c.is_user ≡ true) × (c.verifier ≡ user.verifier)

-- what made-up verifiers are like: the verifier of the first user; without one they have 4096 rounds and a salt of 16 bytes
abbrev pub IsLike : List User → Verifier → Type 0
IsLike [] v = (v.rounds ≡ 4096) × (length v.salt ≡ 16)
IsLike (user ∷ rest) v = v ≡ user.verifier

-- a verifier that is made up: its salt is the code of the name under the secret
pub record IsMadeUp (users : List User) (secret name : List ℕ) (made : Verifier) : Type 0 where
  pub like : Verifier
  pub is_like : IsLike users like
  pub rounds : made.rounds ≡ like.rounds
  pub salt : made.salt ≡ take (min (length like.salt) 32) (hmac secret name)
