-- Digests have 32 bytes; combined with the same bytes twice, bytes are what they were.
use Rattle.std.proofs.Common.{◌≡◌, ℕ, zero, suc, ◌/◌, ◌%◌, ◌<◌, ◌≤◌, ◌^◌, List, [], ◌∷◌, ◌++◌, length, get_or, refl, ap, ap₂, ◌∙◌, arith, All, inl, inr, bit_xor}
use Rattle.std.specs.Prelude.{slice_index}
use Rattle.std.specs.Int.{w32, to_be_bytes}
use Rattle.std.proofs.lemmas.Bool.{cases_lt}
use Rattle.std.proofs.lemmas.List.{get_or_past, get_or_default}
use Rattle.std.proofs.lemmas.List.Elements.{All-nil, All-cons, All-head, All-tail, All-append}
use Rattle.std.proofs.lemmas.Nat.{xor_of_8}
use lib.Bits.{xor_assoc, xor_self, xor_zero_r}
use Rattle.base64.specs.GeneralPurpose.{IsBytes}
use Rattle.sha2.specs.Sha256.{sha256, digest_bytes, final_hash, initial_hash_256}
use Rattle.sha2.proofs.Facts256.{length-sha256}
use Rattle.scram.specs.Mac.{block_of, combined_with, hmac, xor_bytes}
use Rattle.scram.specs.Words.{IsDigest}

abbrev AreBytes : List ℕ → Type 0
AreBytes bytes = All (λ b. b < 256) bytes

is_bytes : (bytes : List ℕ) → AreBytes bytes → IsBytes bytes
is_bytes bytes all i = elim (cases_lt i (length bytes)) [
  | inl low ↦ all i 0 low
  | inr high ↦ let past = get_or_past bytes i 0 high in omega (arith, past)
]

all_bytes : (bytes : List ℕ) → IsBytes bytes → AreBytes bytes
all_bytes bytes is k d low = let same = get_or_default bytes k d 0 low in let small = is k in omega (arith, same, small)

four_bytes : (a b c d : ℕ) → a < 256 → b < 256 → c < 256 → d < 256 → AreBytes (a ∷ b ∷ c ∷ d ∷ [])
four_bytes a b c d w x y z =
    All-cons (λ n. n < 256) a (b ∷ c ∷ d ∷ []) w
    (All-cons (λ n. n < 256) b (c ∷ d ∷ []) x
    (All-cons (λ n. n < 256) c (d ∷ []) y
    (All-cons (λ n. n < 256) d [] z (All-nil (λ n. n < 256)))))

word_bytes : (n : ℕ) → AreBytes (to_be_bytes w32 n)
word_bytes n =
    four_bytes (n / 256 ^ 3 % 256) (n / 256 ^ 2 % 256) (n / 256 ^ 1 % 256) (n % 256) (omega arith) (omega arith) (omega arith) (omega arith)

digest_bytes_small : (h : List ℕ) (n : ℕ) → AreBytes (digest_bytes h n)
unfolding digest_bytes
digest_bytes_small h zero = All-nil (λ b. b < 256)
digest_bytes_small h (suc n) =
    All-append (λ b. b < 256) (digest_bytes h n) (to_be_bytes w32 (slice_index h n)) (digest_bytes_small h n) (word_bytes (slice_index h n))

pub sha256_digest : (text : List ℕ) → IsDigest (sha256 text)
unfolding sha256
sha256_digest text =
    let h = final_hash initial_hash_256 text in
    (length-sha256 text, is_bytes (digest_bytes h 8) (digest_bytes_small h 8))

pub hmac_digest : (key text : List ℕ) → IsDigest (hmac key text)
unfolding hmac
hmac_digest key text = sha256_digest (combined_with 0x5c (block_of key) ++ sha256 (combined_with 0x36 (block_of key) ++ text))

-- ---- bytes combined by exclusive or

pub xor_bytes-at : (xs ys : List ℕ) (i : ℕ) → i < length xs → i < length ys → get_or (xor_bytes xs ys) i 0 ≡ bit_xor (get_or xs i 0) (get_or ys i 0)
xor_bytes-at [] ys i x y = absurd (omega arith)
xor_bytes-at (x ∷ xs) [] i l r = absurd (omega arith)
xor_bytes-at (x ∷ xs) (y ∷ ys) zero l r = refl
xor_bytes-at (x ∷ xs) (y ∷ ys) (suc i) l r = xor_bytes-at xs ys i (omega arith) (omega arith)

pub length-xor_bytes : (xs ys : List ℕ) → length xs ≤ length ys → length (xor_bytes xs ys) ≡ length xs
length-xor_bytes [] ys l = refl
length-xor_bytes (x ∷ xs) [] l = absurd (omega arith)
length-xor_bytes (x ∷ xs) (y ∷ ys) l = let rest = length-xor_bytes xs ys (omega arith) in omega (arith, rest)

xor_small : (xs ys : List ℕ) → AreBytes xs → AreBytes ys → AreBytes (xor_bytes xs ys)
xor_small [] ys x y = All-nil (λ b. b < 256)
xor_small (a ∷ xs) [] x y = All-nil (λ b. b < 256)
xor_small (a ∷ xs) (b ∷ ys) x y =
    All-cons (λ n. n < 256) (bit_xor a b) (xor_bytes xs ys)
    (xor_of_8 a b (All-head (λ n. n < 256) a xs x) (All-head (λ n. n < 256) b ys y))
    (xor_small xs ys (All-tail (λ n. n < 256) a xs x) (All-tail (λ n. n < 256) b ys y))

pub xor_digest : (xs ys : List ℕ) → IsDigest xs → IsDigest ys → IsDigest (xor_bytes xs ys)
xor_digest xs ys x y =
    let long = length-xor_bytes xs ys (omega (arith, x.0, y.0)) in
    (long ∙ x.0, is_bytes (xor_bytes xs ys) (xor_small xs ys (all_bytes xs x.1) (all_bytes ys y.1)))

xor_back : (a b : ℕ) → bit_xor (bit_xor a b) b ≡ a
xor_back a b = xor_assoc a b b ∙ (ap (λ (n : ℕ). bit_xor a n) (xor_self b) ∙ xor_zero_r a)

pub xor_twice : (xs ys : List ℕ) → length xs ≤ length ys → xor_bytes (xor_bytes xs ys) ys ≡ xs
xor_twice [] ys l = refl
xor_twice (x ∷ xs) [] l = absurd (omega arith)
xor_twice (x ∷ xs) (y ∷ ys) l =
    ap₂ (λ (b : ℕ) (bs : List ℕ). b ∷ bs) (xor_back x y) (xor_twice xs ys (omega arith))
