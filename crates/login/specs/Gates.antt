-- A client's password: what is answered to a message, and when a client is let in.
use Rattle.std.specs.Prelude.{◌≡◌, ◌<◌, ◌^◌, ℕ, true, false, List, length}
use Rattle.pg_messages.specs.declared.server.ServerMessage.{ServerMessage}
use Rattle.pg_messages.specs.declared.server.ServerMessage.TheVariants.{AuthContinue, AuthFinal}
use Rattle.scram.specs.declared.server.ScramServer.{ScramServer}
use Rattle.scram.specs.declared.server.ScramServer.TheVariants as servers
use Rattle.scram.specs.Messages.{IsSomeFirst}
use Rattle.scram.specs.Servers.{IsChallenge, IsLast, IsAccepted, IsUnproven, IsNoLast}
use Rattle.login.specs.declared.gate.Login.{Login}
use Rattle.login.specs.declared.gate.Login.TheVariants.{Asked, Challenged, Over}
use Rattle.login.specs.declared.gate.Answer.{Answer}
use Rattle.login.specs.declared.gate.Answer.TheVariants as answers
use Rattle.login.specs.declared.fault.LoginFault.TheVariants.{Password, Malformed}
use Rattle.login.specs.Initial.{initial_body}

-- a first message was answered, by the verifier of its user
pub record IsAnswered (old new : ScramServer) (body : List ℕ) (answer : ServerMessage) : Type 0 where
  pub message : List ℕ
  pub reply : List ℕ
  pub sent : body ≡ initial_body message
  pub challenge : IsChallenge message reply old new
  pub told : answer ≡ AuthContinue reply

abbrev pub Goes : Login → List ℕ → ServerMessage → Login → Type 0
Goes (Asked verifier is_user nonce) body answer (Challenged server was_user) =
    (was_user ≡ is_user) × IsAnswered (servers.Fresh verifier nonce) server body answer
Goes old body answer new = ⊥

-- a last message with the proof of the user's password
pub record IsProven (server : ScramServer) (body : List ℕ) (answer : ServerMessage) : Type 0 where
  pub reply : List ℕ
  pub accepted : IsAccepted server body reply
  pub told : answer ≡ AuthFinal reply

abbrev pub LetsIn : Login → List ℕ → ServerMessage → Type 0
LetsIn (Challenged server is_user) body answer = (is_user ≡ true) × IsProven server body answer
LetsIn old body answer = ⊥

-- a last message of this exchange, whatever its proof
pub record IsSomeLast (server : ScramServer) (body : List ℕ) : Type 0 where
  pub proof : List ℕ
  pub said : IsLast server body proof

-- a password is refused: the proof is wrong, or there is no user of the name and so no right proof
abbrev pub IsRefused : Login → List ℕ → Type 0
IsRefused (Challenged server true) body = IsUnproven server body
IsRefused (Challenged server false) body = IsSomeLast server body
IsRefused old body = ⊥

-- a body has no first message
abbrev pub HasNoFirst : List ℕ → Type 0
HasNoFirst body = (message : List ℕ) → length message < 2 ^ 32 → body ≡ initial_body message → IsSomeFirst message → ⊥

-- a body is none that may come here
abbrev pub IsMalformed : Login → List ℕ → Type 0
IsMalformed (Asked verifier is_user nonce) body = HasNoFirst body
IsMalformed (Challenged server is_user) body = IsNoLast server body
IsMalformed Over body = Unit {0}

-- what is answered to a body, and the state after it
abbrev pub IsTurn : Login → List ℕ → Answer → Login → Type 0
IsTurn old body (answers.Goes told) new = Goes old body told new
IsTurn old body (answers.LetIn told) new = LetsIn old body told × (new ≡ Over)
IsTurn old body (answers.Refused Password) new = IsRefused old body × (new ≡ Over)
IsTurn old body (answers.Refused Malformed) new = IsMalformed old body × (new ≡ Over)
