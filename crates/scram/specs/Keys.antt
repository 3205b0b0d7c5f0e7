-- The keys of a password, and what is made with them (RFC 5802, "SCRAM Algorithm Overview").
use Rattle.std.specs.Prelude.{◌≡◌, ℕ, List, codes}
use Rattle.sha2.specs.Sha256.{sha256}
use Rattle.scram.specs.Mac.{hmac, hi, xor_bytes}
use Rattle.scram.specs.declared.keys.Keys.{Keys}

-- SaltedPassword. A password of bytes 32 to 126 is its own normal form
abbrev pub salted_password : List ℕ → List ℕ → ℕ → List ℕ
salted_password password salt rounds = hi password salt rounds

-- ClientKey
abbrev pub client_key : List ℕ → List ℕ
client_key salted = hmac salted (codes "Client Key")

-- StoredKey
abbrev pub stored_key : List ℕ → List ℕ
stored_key salted = sha256 (client_key salted)

-- ServerKey
abbrev pub server_key : List ℕ → List ℕ
server_key salted = hmac salted (codes "Server Key")

-- ClientSignature, by the stored key, and ServerSignature, by the server key
abbrev pub signature : List ℕ → List ℕ → List ℕ
signature key auth = hmac key auth

-- ClientProof
abbrev pub client_proof : List ℕ → List ℕ → List ℕ
client_proof salted auth = xor_bytes (client_key salted) (signature (stored_key salted) auth)

-- a proof is of the stored key: combined with the client signature it is a client key whose digest is stored
abbrev pub Proves : List ℕ → List ℕ → List ℕ → Type 0
Proves stored auth proof = sha256 (xor_bytes proof (signature stored auth)) ≡ stored

-- the keys of a salted password
abbrev pub IsKeysOf : Keys → List ℕ → Type 0
IsKeysOf keys salted = (keys.client ≡ client_key salted) × (keys.stored ≡ stored_key salted) × (keys.server ≡ server_key salted)
