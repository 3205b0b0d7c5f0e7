-- The server's side: what it answers to the two messages of a client.
use Rattle.std.specs.Prelude.{◌≡◌, ℕ, List, ◌++◌}
use Rattle.scram.specs.declared.binding.Binding.{Binding}
use Rattle.scram.specs.declared.server.ScramServer.{ScramServer}
use Rattle.scram.specs.declared.server.ScramServer.TheVariants.{Fresh, Asked, Over}
use Rattle.scram.specs.Messages.{client_first_bare, IsClientFirst, server_first, IsClientFinal, server_final, said_of, auth_message}
use Rattle.scram.specs.Keys.{signature, Proves}

-- the reply and the state by the state before
abbrev pub Asks : ScramServer → ScramServer → List ℕ → Binding → List ℕ → List ℕ → Type 0
Asks (Fresh verifier nonce) new reply binding own bare =
    (reply ≡ server_first (own ++ nonce) verifier.salt verifier.rounds) × (new ≡ Asked verifier binding (own ++ nonce) (said_of bare reply))
Asks (Asked verifier binding nonce said) new reply b own bare = ⊥
Asks Over new reply binding own bare = ⊥

-- what follows a first message: the nonce is the client's with the server's behind it
pub record IsChallenge (message reply : List ℕ) (old new : ScramServer) : Type 0 where
  pub binding : Binding
  pub user : List ℕ
  pub own : List ℕ
  pub said : IsClientFirst message binding user own
  pub answers : Asks old new reply binding own (client_first_bare user own)

-- a first message that is none, or comes out of turn
abbrev pub IsNoFirst : ScramServer → List ℕ → Type 0
IsNoFirst (Fresh verifier nonce) message = (binding : Binding) (user own : List ℕ) → IsClientFirst message binding user own → ⊥
IsNoFirst (Asked verifier binding nonce said) message = Unit {0}
IsNoFirst Over message = Unit {0}

-- the message is the client's last one, and its proof is this
abbrev pub IsLast : ScramServer → List ℕ → List ℕ → Type 0
IsLast (Fresh verifier nonce) message proof = ⊥
IsLast (Asked verifier binding nonce said) message proof = IsClientFinal message binding nonce proof
IsLast Over message proof = ⊥

-- a proof is right
abbrev pub IsProven : ScramServer → List ℕ → Type 0
IsProven (Fresh verifier nonce) proof = ⊥
IsProven (Asked verifier binding nonce said) proof = Proves verifier.stored (auth_message said binding nonce) proof
IsProven Over proof = ⊥

-- the reply to a right proof: the server's signature
abbrev pub IsVerdict : ScramServer → List ℕ → Type 0
IsVerdict (Fresh verifier nonce) reply = ⊥
IsVerdict (Asked verifier binding nonce said) reply = reply ≡ server_final (signature verifier.server (auth_message said binding nonce))
IsVerdict Over reply = ⊥

-- a last message with a right proof
pub record IsAccepted (old : ScramServer) (message reply : List ℕ) : Type 0 where
  pub proof : List ℕ
  pub said : IsLast old message proof
  pub proven : IsProven old proof
  pub verdict : IsVerdict old reply

-- a last message with a wrong proof
pub record IsUnproven (old : ScramServer) (message : List ℕ) : Type 0 where
  pub proof : List ℕ
  pub said : IsLast old message proof
  pub wrong : IsProven old proof → ⊥

-- a last message that is none of this exchange, or comes out of turn
abbrev pub IsNoLast : ScramServer → List ℕ → Type 0
IsNoLast old message = (proof : List ℕ) → IsLast old message proof → ⊥
