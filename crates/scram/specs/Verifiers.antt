-- What a server keeps of a password, and its text (PostgreSQL, "pg_authid": `SCRAM-SHA-256$rounds:salt$stored:server`).
use Rattle.std.specs.Prelude.{◌≡◌, ℕ, List, ◌++◌, codes, decimal}
use Rattle.base64.specs.GeneralPurpose.{IsBytes}
use Rattle.scram.specs.Words.{IsRounds, IsDigest, in_base64}
use Rattle.scram.specs.Keys.{salted_password, stored_key, server_key}
use Rattle.scram.specs.declared.verifier.Verifier.{Verifier}

-- by the texts of its four values
abbrev pub verifier_text : List ℕ → List ℕ → List ℕ → List ℕ → List ℕ
verifier_text rounds salt stored server = codes "SCRAM-SHA-256$" ++ rounds ++ codes ":" ++ salt ++ codes "$" ++ stored ++ codes ":" ++ server

-- the text is the verifier's
pub record IsTextOf (text : List ℕ) (verifier : Verifier) : Type 0 where
  pub range : IsRounds verifier.rounds
  pub bytes : IsBytes verifier.salt
  pub stored : IsDigest verifier.stored
  pub server : IsDigest verifier.server
  pub is : text ≡ verifier_text (decimal verifier.rounds) (in_base64 verifier.salt) (in_base64 verifier.stored) (in_base64 verifier.server)

-- the verifier is made of the password
pub record IsVerifierOf (verifier : Verifier) (password salt : List ℕ) (rounds : ℕ) : Type 0 where
  pub rounds_are : verifier.rounds ≡ rounds
  pub salt_is : verifier.salt ≡ salt
  pub stored_is : verifier.stored ≡ stored_key (salted_password password salt rounds)
  pub server_is : verifier.server ≡ server_key (salted_password password salt rounds)
