-- The four messages of an exchange (RFC 5802, "Formal Syntax"), with the attributes of the example of RFC 7677 and no others.
use Rattle.std.specs.Prelude.{◌≡◌, ℕ, ◌<◌, List, ◌++◌, length, codes, decimal}
use Rattle.base64.specs.GeneralPurpose.{IsBytes}
use Rattle.scram.specs.declared.binding.Binding.{Binding}
use Rattle.scram.specs.declared.binding.Binding.TheVariants.{Unable, Unoffered}
use Rattle.scram.specs.declared.challenge.Challenge.{Challenge}
use Rattle.scram.specs.Words.{IsName, IsNonce, IsRounds, IsDigest, in_base64}

-- the header: there is no binding to a channel
abbrev pub header_of : Binding → List ℕ
header_of Unable = codes "n,,"
header_of Unoffered = codes "y,,"

-- ---- the client's first message

-- without its header
abbrev pub client_first_bare : List ℕ → List ℕ → List ℕ
client_first_bare user nonce = codes "n=" ++ user ++ codes ",r=" ++ nonce

abbrev pub client_first : Binding → List ℕ → List ℕ → List ℕ
client_first binding user nonce = header_of binding ++ client_first_bare user nonce

abbrev pub IsClientFirst : List ℕ → Binding → List ℕ → List ℕ → Type 0
IsClientFirst message binding user nonce = IsName user × IsNonce nonce × (message ≡ client_first binding user nonce)

-- the message is a client's first one
pub record IsSomeFirst (message : List ℕ) : Type 0 where
  pub binding : Binding
  pub user : List ℕ
  pub nonce : List ℕ
  pub is : IsClientFirst message binding user nonce

-- ---- the server's first message

-- by the texts of its three values
abbrev pub challenge_of : List ℕ → List ℕ → List ℕ → List ℕ
challenge_of nonce salt rounds = codes "r=" ++ nonce ++ codes ",s=" ++ salt ++ codes ",i=" ++ rounds

abbrev pub server_first : List ℕ → List ℕ → ℕ → List ℕ
server_first nonce salt rounds = challenge_of nonce (in_base64 salt) (decimal rounds)

-- a nonce is another one with something behind it
pub record Extends (own nonce : List ℕ) : Type 0 where
  pub added : List ℕ
  pub is : nonce ≡ own ++ added
  pub some : 0 < length added

-- the nonce begins with the client's own, and the server has added to it
pub record IsServerFirst (own message nonce salt : List ℕ) (rounds : ℕ) : Type 0 where
  pub extends : Extends own nonce
  pub printable : IsNonce nonce
  pub bytes : IsBytes salt
  pub range : IsRounds rounds
  pub is : message ≡ server_first nonce salt rounds

-- these are the parts of the message
abbrev pub AreParts : List ℕ → List ℕ → Challenge → Type 0
AreParts own message parts = IsServerFirst own message parts.nonce parts.salt parts.rounds

-- ---- the client's last message

-- without the proof
abbrev pub without_proof : Binding → List ℕ → List ℕ
without_proof binding nonce = codes "c=" ++ in_base64 (header_of binding) ++ codes ",r=" ++ nonce

abbrev pub client_final : Binding → List ℕ → List ℕ → List ℕ
client_final binding nonce proof = without_proof binding nonce ++ codes ",p=" ++ in_base64 proof

-- the header and the nonce are those of the exchange
abbrev pub IsClientFinal : List ℕ → Binding → List ℕ → List ℕ → Type 0
IsClientFinal message binding nonce proof = IsDigest proof × (message ≡ client_final binding nonce proof)

-- ---- the server's last message

abbrev pub server_final : List ℕ → List ℕ
server_final signature = codes "v=" ++ in_base64 signature

abbrev pub IsServerFinal : List ℕ → List ℕ → Type 0
IsServerFinal message signature = IsDigest signature × (message ≡ server_final signature)

-- ---- what proof and signatures are of

-- the first two messages, without the header
abbrev pub said_of : List ℕ → List ℕ → List ℕ
said_of bare reply = bare ++ codes "," ++ reply

-- AuthMessage: the first two messages and the client's last one without its proof
abbrev pub auth_message : List ℕ → Binding → List ℕ → List ℕ
auth_message said binding nonce = said ++ codes "," ++ without_proof binding nonce
