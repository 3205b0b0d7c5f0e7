-- A client and a server whose verifier was made of the same password accept each other: none of the four messages is refused.
use Rattle.std.specs.Prelude.{ℕ, List}
use Rattle.base64.specs.GeneralPurpose.{IsBytes}
use Rattle.scram.specs.Words.{IsName, IsNonce, IsRounds}
use Rattle.scram.specs.Verifiers.{IsVerifierOf}
use Rattle.scram.specs.Servers.{IsChallenge, IsAccepted}
use Rattle.scram.specs.Clients.{IsOpening, IsAnswer}
use Rattle.scram.specs.declared.verifier.Verifier.{Verifier}
use Rattle.scram.specs.declared.server.ScramServer.{ScramServer}
use Rattle.scram.specs.declared.server.ScramServer.TheVariants as servers
use Rattle.scram.specs.declared.client.ScramClient.{ScramClient}
use Rattle.scram.specs.declared.client.ScramClient.TheVariants as clients

-- who takes part: a server with a verifier of the password, and names and nonces that may stand in messages
pub record Pair : Type 0 where
  pub verifier : Verifier
  pub password : List ℕ
  pub salt : List ℕ
  pub rounds : ℕ
  pub user : List ℕ
  pub own : List ℕ
  pub added : List ℕ
  pub made : IsVerifierOf verifier password salt rounds
  pub bytes : IsBytes salt
  pub range : IsRounds rounds
  pub named : IsName user
  pub printable : IsNonce own
  pub more : IsNonce added

-- both before the first message
abbrev pub client_of : Pair → ScramClient
client_of pair = clients.Fresh pair.user pair.password pair.own

abbrev pub server_of : Pair → ScramServer
server_of pair = servers.Fresh pair.verifier pair.added

-- the client has said its first message
pub record Opens (pair : Pair) : Type 0 where
  pub message : List ℕ
  pub client : ScramClient
  pub is : IsOpening (client_of pair) message client

-- the server has answered it
pub record Challenges (pair : Pair) (one : Opens pair) : Type 0 where
  pub message : List ℕ
  pub server : ScramServer
  pub is : IsChallenge one.message message (server_of pair) server

-- the client has answered that
pub record Proves (pair : Pair) (one : Opens pair) (two : Challenges pair one) : Type 0 where
  pub message : List ℕ
  pub client : ScramClient
  pub is : IsAnswer one.client two.message message client

-- and the server that
pub record Shows (pair : Pair) (one : Opens pair) (two : Challenges pair one) (three : Proves pair one two) : Type 0 where
  pub message : List ℕ
  pub is : IsAccepted two.server three.message message
