-- The client's side: what it says, and what it makes of the two messages of a server.
use Rattle.std.specs.Prelude.{◌≡◌, ℕ, List}
use Rattle.scram.specs.declared.binding.Binding.TheVariants.{Unable}
use Rattle.scram.specs.declared.client.ScramClient.{ScramClient}
use Rattle.scram.specs.declared.client.ScramClient.TheVariants.{Fresh, Opened, Answered, Over}
use Rattle.scram.specs.Messages.{client_first, client_first_bare, IsServerFirst, client_final, IsServerFinal, said_of, auth_message}
use Rattle.scram.specs.Keys.{salted_password, client_proof, server_key, signature}

-- nothing is said yet
abbrev pub IsFresh : ScramClient → Type 0
IsFresh (Fresh user password nonce) = Unit {0}
IsFresh (Opened password nonce bare) = ⊥
IsFresh (Answered expected) = ⊥
IsFresh Over = ⊥

-- the first message, and the state after it
abbrev pub IsOpening : ScramClient → List ℕ → ScramClient → Type 0
IsOpening (Fresh user password nonce) message new =
    (message ≡ client_first Unable user nonce) × (new ≡ Opened password nonce (client_first_bare user nonce))
IsOpening (Opened password nonce bare) message new = ⊥
IsOpening (Answered expected) message new = ⊥
IsOpening Over message new = ⊥

-- the message is the server's first one
abbrev pub IsFirst : ScramClient → List ℕ → List ℕ → List ℕ → ℕ → Type 0
IsFirst (Fresh user password nonce) message whole salt rounds = ⊥
IsFirst (Opened password nonce bare) message whole salt rounds = IsServerFirst nonce message whole salt rounds
IsFirst (Answered expected) message whole salt rounds = ⊥
IsFirst Over message whole salt rounds = ⊥

-- what is proved, and the signature that is awaited, of a salted password and what was said before the proof
abbrev pub Proven : List ℕ → List ℕ → List ℕ → List ℕ → ScramClient → Type 0
Proven salted auth nonce reply new =
    (reply ≡ client_final Unable nonce (client_proof salted auth)) × (new ≡ Answered (signature (server_key salted) auth))

-- the reply to the server's first message, and the state after it
abbrev pub Answers : ScramClient → List ℕ → List ℕ → List ℕ → ℕ → List ℕ → ScramClient → Type 0
Answers (Fresh user password nonce) message whole salt rounds reply new = ⊥
Answers (Opened password nonce bare) message whole salt rounds reply new =
    Proven (salted_password password salt rounds) (auth_message (said_of bare message) Unable whole) whole reply new
Answers (Answered expected) message whole salt rounds reply new = ⊥
Answers Over message whole salt rounds reply new = ⊥

pub record IsAnswer (old : ScramClient) (message reply : List ℕ) (new : ScramClient) : Type 0 where
  pub nonce : List ℕ
  pub salt : List ℕ
  pub rounds : ℕ
  pub said : IsFirst old message nonce salt rounds
  pub answers : Answers old message nonce salt rounds reply new

-- a first message of a server that is none of this exchange, or comes out of turn
abbrev pub IsNoChallenge : ScramClient → List ℕ → Type 0
IsNoChallenge old message = (nonce salt : List ℕ) (rounds : ℕ) → IsFirst old message nonce salt rounds → ⊥

-- the message is the server's last one, and its signature is this
abbrev pub IsLast : ScramClient → List ℕ → List ℕ → Type 0
IsLast (Fresh user password nonce) message given = ⊥
IsLast (Opened password nonce bare) message given = ⊥
IsLast (Answered expected) message given = IsServerFinal message given
IsLast Over message given = ⊥

-- the signature is the one that is awaited
abbrev pub IsAwaited : ScramClient → List ℕ → Type 0
IsAwaited (Fresh user password nonce) given = ⊥
IsAwaited (Opened password nonce bare) given = ⊥
IsAwaited (Answered expected) given = given ≡ expected
IsAwaited Over given = ⊥

-- the server has shown that it knows the keys of the password
pub record IsChecked (old : ScramClient) (message : List ℕ) : Type 0 where
  pub given : List ℕ
  pub said : IsLast old message given
  pub awaited : IsAwaited old given

-- a last message with another signature
pub record IsForged (old : ScramClient) (message : List ℕ) : Type 0 where
  pub given : List ℕ
  pub said : IsLast old message given
  pub other : IsAwaited old given → ⊥

-- a last message that is none, or comes out of turn
abbrev pub IsNoVerdict : ScramClient → List ℕ → Type 0
IsNoVerdict old message = (given : List ℕ) → IsLast old message given → ⊥
