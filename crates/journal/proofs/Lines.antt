-- A text with a word in front of each of its lines, a line at a time.
use Rattle.std.proofs.Common.{◌≡◌, ◌≢◌, ℕ, suc, ◌<◌, List, [], ◌∷◌, ◌++◌, length, get_or, Bool, true, false, if◌then◌else◌, refl, sym, ap, ◌∙◌, arith, append_assoc, append-nil, ne_eqb}
use Rattle.journal.specs.Header.{marked, behind}

-- no line feed
abbrev pub IsWithin : List ℕ → Type 0
IsWithin line = (i : ℕ) → i < length line → get_or line i 0 ≢ 10

over_line : (word : List ℕ) (begins : Bool) (line more : List ℕ) → IsWithin line → marked word begins (line ++ 10 ∷ more) ≡ (if begins then word else []) ++ (line ++ (10 ∷ marked word true more))
unfolding marked
over_line word begins [] more h = refl
over_line word begins (b ∷ line) more h =
    rw (ne_eqb b 10 (h 0 (omega arith))) (ap (λ l. (if begins then word else []) ++ (b ∷ l)) (over_line word false line more (λ i less. h (suc i) (omega arith))))

within_line : (word line : List ℕ) → IsWithin line → marked word false line ≡ line
unfolding marked
within_line word [] h = refl
within_line word (b ∷ line) h = rw (ne_eqb b 10 (h 0 (omega arith))) (ap (λ l. b ∷ l) (within_line word line (λ i less. h (suc i) (omega arith))))

-- a line that ends, and what stands behind it
pub one_more : (onto word left line more total after : List ℕ) → onto ++ behind word left ≡ total → left ≡ line ++ 10 ∷ more → IsWithin line
    → after ≡ (onto ++ (word ++ line)) ++ 10 ∷ [] → after ++ behind word more ≡ total
one_more onto word left line more total after so_far cut inside is =
    let regrouped : ((onto ++ (word ++ line)) ++ 10 ∷ []) ++ behind word more ≡ onto ++ (word ++ (line ++ (10 ∷ behind word more))) = simp append_assoc in
    ap (λ a. a ++ behind word more) is ∙ regrouped ∙ ap (λ l. onto ++ l) (sym (over_line word true line more inside))
    ∙ ap (λ l. onto ++ behind word l) (sym cut) ∙ so_far

-- nothing is left
pub at_end : (onto word left total : List ℕ) → onto ++ behind word left ≡ total → length left ≡ 0 → onto ≡ total
unfolding marked
at_end onto word [] total so_far none = sym (append-nil onto) ∙ so_far
at_end onto word (b ∷ left) total so_far none = absurd (omega arith)

-- a last line that does not end, if there is one
last_line : (word left : List ℕ) → IsWithin left → 0 < length left → behind word left ≡ word ++ left
unfolding marked
last_line word [] inside some = absurd (omega arith)
last_line word (b ∷ left) inside some =
    rw (ne_eqb b 10 (inside 0 (omega arith))) (ap (λ l. word ++ (b ∷ l)) (within_line word left (λ i less. inside (suc i) (omega arith))))

pub at_last : (onto word left total after : List ℕ) → onto ++ behind word left ≡ total → IsWithin left → 0 < length left → after ≡ onto ++ (word ++ left) → after ≡ total
at_last onto word left total after so_far inside some is = is ∙ ap (λ l. onto ++ l) (sym (last_line word left inside some)) ∙ so_far
