-- Blocks that a loop has filled, byte by byte.
use Rattle.std.proofs.Common.{◌≡◌, ℕ, ◌-◌, ◌<◌, ◌≤◌, List, length, get_or, replicate, refl, sym, ◌∙◌, arith, inl, inr, bit_xor, length-append, ext_get_or}
use Rattle.std.proofs.lemmas.Bool.{cases_lt}
use Rattle.std.proofs.lemmas.List.{length-replicate, length-map, get_or-replicate, get_or_append_left, get_or-append_right, get_or-map, get_or_past}
use Rattle.scram.specs.Mac.{filled, combined_with, xor_bytes}
use Rattle.scram.proofs.Digests.{xor_bytes-at, length-xor_bytes}

abbrev pub zeros : ℕ → List ℕ
zeros n = replicate n 0

replicate_zero : (n k : ℕ) → get_or (zeros n) k 0 ≡ 0
replicate_zero n k = elim (cases_lt k n) [
  | inl low ↦ get_or-replicate n k 0 0 low
  | inr high ↦ get_or_past (zeros n) k 0 (let long : length (zeros n) ≡ n = length-replicate {A = ℕ} n 0 in omega (arith, long, high))
]

pub nothing_yet : (length (zeros 64) ≡ 64) × ((k : ℕ) → get_or (zeros 64) k 0 ≡ 0)
nothing_yet = (length-replicate {A = ℕ} 64 0, replicate_zero 64)

filled_at : (bytes : List ℕ) (k : ℕ) → length bytes ≤ k → get_or (filled bytes) k 0 ≡ 0
filled_at bytes k high = get_or-append_right bytes (replicate (64 - length bytes) 0) (length bytes) k 0 refl high ∙ replicate_zero (64 - length bytes) (k - length bytes)

pub filled_is : (bytes block : List ℕ) → length bytes ≤ 64 → length block ≡ 64 → ((k : ℕ) → k < length bytes → get_or block k 0 ≡ get_or bytes k 0)
    → ((k : ℕ) → length bytes ≤ k → get_or block k 0 ≡ 0) → block ≡ filled bytes
filled_is bytes block short long front back =
    let tail = length-replicate {A = ℕ} (64 - length bytes) 0 in
    let both = length-append bytes (replicate (64 - length bytes) 0) in
    ext_get_or 0 block (filled bytes) (omega (arith, long, tail, both, short)) (λ k h. at k)
  where
    at : (k : ℕ) → get_or block k 0 ≡ get_or (filled bytes) k 0
    at k = elim (cases_lt k (length bytes)) [
      | inl low ↦ front k low ∙ sym (get_or_append_left bytes (replicate (64 - length bytes) 0) 0 k low)
      | inr high ↦ back k high ∙ sym (filled_at bytes k high)
    ]

pub combined_is : (pad : ℕ) (block combined : List ℕ) → length block ≡ 64 → length combined ≡ 64 → ((k : ℕ) → k < 64 → get_or combined k 0 ≡ bit_xor (get_or block k 0) pad)
    → combined ≡ combined_with pad block
combined_is pad block combined from long each =
    let mapped = length-map block (λ (b : ℕ). bit_xor b pad) in
    ext_get_or 0 combined (combined_with pad block) (omega (arith, from, long, mapped))
    (λ k h. each k (omega (arith, h, long)) ∙ sym (get_or-map (λ (b : ℕ). bit_xor b pad) block k 0 0 (omega (arith, h, from, long))))

pub xor_is : (left right combined : List ℕ) → length left ≡ 32 → length right ≡ 32 → length combined ≡ 32
    → ((k : ℕ) → k < 32 → get_or combined k 0 ≡ bit_xor (get_or left k 0) (get_or right k 0)) → combined ≡ xor_bytes left right
xor_is left right combined l r long each =
    let both = length-xor_bytes left right (omega (arith, l, r)) in
    ext_get_or 0 combined (xor_bytes left right) (omega (arith, l, long, both))
    (λ k h. each k (omega (arith, h, long)) ∙ sym (xor_bytes-at left right k (omega (arith, h, l, long)) (omega (arith, h, r, long))))
