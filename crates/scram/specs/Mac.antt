-- HMAC over SHA-256 (RFC 2104, "Definition of HMAC") and Hi (RFC 5802, "Notation").
use Rattle.std.specs.Prelude.{◌≡◌, ℕ, zero, suc, ◌-◌, nat_lt, List, [], ◌∷◌, ◌++◌, length, map, replicate, bit_xor, if◌then◌else◌}
use Rattle.sha2.specs.Sha256.{sha256}
use Rattle.scram.specs.declared.mac.Keyed.{Keyed}

-- a block of 64 bytes: these, and zeros behind them
abbrev pub filled : List ℕ → List ℕ
filled bytes = bytes ++ replicate (64 - length bytes) 0

-- the block that a key fills: of a longer key its digest
abbrev pub block_of : List ℕ → List ℕ
block_of key = if nat_lt 64 (length key) then filled (sha256 key) else filled key

-- each byte combined with one and the same byte by exclusive or
abbrev pub combined_with : ℕ → List ℕ → List ℕ
combined_with pad block = map (λ b. bit_xor b pad) block

-- the code of a text under a key
unfoldable pub hmac : List ℕ → List ℕ → List ℕ
hmac key text = sha256 (combined_with 0x5c (block_of key) ++ sha256 (combined_with 0x36 (block_of key) ++ text))

-- two lists combined byte by byte by exclusive or, as far as both go
abbrev pub xor_bytes : List ℕ → List ℕ → List ℕ
xor_bytes [] ys = []
xor_bytes (x ∷ xs) [] = []
xor_bytes (x ∷ xs) (y ∷ ys) = bit_xor x y ∷ xor_bytes xs ys

-- U1, U2 and so on, counted from 0: the first is of the salt and the number 1 in four bytes, each other one of the one before
unfoldable pub chained : List ℕ → List ℕ → ℕ → List ℕ
chained password salt zero = hmac password (salt ++ 0 ∷ 0 ∷ 0 ∷ 1 ∷ [])
chained password salt (suc n) = hmac password (chained password salt n)

-- U1 to U(n + 1), combined
unfoldable pub chained_up_to : List ℕ → List ℕ → ℕ → List ℕ
chained_up_to password salt zero = chained password salt 0
chained_up_to password salt (suc n) = xor_bytes (chained_up_to password salt n) (chained password salt (suc n))

-- Hi: U1 to U(rounds), combined
abbrev pub hi : List ℕ → List ℕ → ℕ → List ℕ
hi password salt rounds = chained_up_to password salt (rounds - 1)

-- the two blocks of a key, each combined with its pad
abbrev pub IsKeyed : Keyed → List ℕ → Type 0
IsKeyed k key = (k.inner ≡ combined_with 0x36 (block_of key)) × (k.outer ≡ combined_with 0x5c (block_of key))

-- the code of a text under the key of two such blocks
abbrev pub signed_by : Keyed → List ℕ → List ℕ
signed_by k text = sha256 (k.outer ++ sha256 (k.inner ++ text))
