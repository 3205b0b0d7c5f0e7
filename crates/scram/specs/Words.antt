-- What may stand in messages: names, nonces, passwords, counts of rounds, bytes in base64 (RFC 5802, "Formal Syntax").
use Rattle.std.specs.Prelude.{◌≡◌, ◌≢◌, ℕ, ◌<◌, ◌≤◌, ◌⊎◌, List, [], ◌∷◌, length, slice_index, All, Option, None, Some}
use Rattle.std.specs.Str.{IsUtf8}
use Rattle.base64.specs.Engines.{standard}
use Rattle.base64.specs.GeneralPurpose.{encode_of, IsBytes}

-- printable: visible ASCII without the comma
abbrev pub IsPrintable : ℕ → Type 0
IsPrintable b = (33 ≤ b) × (b ≤ 126) × (b ≢ 44)

-- a nonce: one printable byte or more
abbrev pub IsNonce : List ℕ → Type 0
IsNonce nonce = (0 < length nonce) × All IsPrintable nonce

-- `2C` or `3D`, as it stands behind `=` for a comma or a `=`
abbrev pub IsEscape : List ℕ → Type 0
IsEscape rest = ((slice_index rest 0 ≡ 50) × (slice_index rest 1 ≡ 67)) ⊎ ((slice_index rest 0 ≡ 51) × (slice_index rest 1 ≡ 68))

-- a byte of a name, by what stands behind it
abbrev pub IsNameByte : ℕ → List ℕ → Type 0
IsNameByte b rest = (b ≢ 0) × (b ≢ 44) × (b ≡ 61 → IsEscape rest)

abbrev pub AreNameBytes : List ℕ → Type 0
AreNameBytes [] = Unit {0}
AreNameBytes (b ∷ rest) = IsNameByte b rest × AreNameBytes rest

-- a name of a user, which may be empty: UTF-8 without NUL and comma, and `=` only in `=2C` and `=3D`
abbrev pub IsName : List ℕ → Type 0
IsName name = IsUtf8 name × AreNameBytes name

-- a password that is its own normal form
abbrev pub IsPassword : List ℕ → Type 0
IsPassword password = All (λ b. (32 ≤ b) × (b ≤ 126)) password

-- a count of rounds
abbrev pub IsRounds : ℕ → Type 0
IsRounds rounds = (1 ≤ rounds) × (rounds ≤ 100000)

-- a text that begins with a digit other than 0
abbrev pub BeginsCount : List ℕ → Type 0
BeginsCount text = (0 < length text) × (49 ≤ slice_index text 0) × (slice_index text 0 ≤ 57)

-- 32 bytes
abbrev pub IsDigest : List ℕ → Type 0
IsDigest bytes = (length bytes ≡ 32) × IsBytes bytes

-- bytes in base64, with padding
unfoldable pub in_base64 : List ℕ → List ℕ
in_base64 bytes = encode_of standard bytes

-- no such byte stands in the list
abbrev pub Lacks : ℕ → List ℕ → Type 0
Lacks mark [] = Unit {0}
Lacks mark (b ∷ bytes) = (b ≢ mark) × Lacks mark bytes

-- what a reader answers: the thing that is there, or that there is none
abbrev pub Reads : {X : Type 0} → (X → Type 0) → Option X → Type 0
Reads {X} Is None = (x : X) → Is x → ⊥
Reads Is (Some x) = Is x
