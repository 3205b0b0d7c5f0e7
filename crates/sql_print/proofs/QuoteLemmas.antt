-- What is written of a text in quotes, at the first quote in it.
use Rattle.std.proofs.Common.{◌≡◌, ℕ, ◌+◌, ◌<◌, ◌==◌, true, false, cond, not, List, [], ◌∷◌, ◌++◌, length, take, drop, ap, refl, Option, Some, None, Bor, sym, ◌∙◌, append_assoc, arith}
use Rattle.std.specs.List.{flat_map, position_or_len, before_first, after_first}
use Rattle.std.proofs.lemmas.Grind.{common_steps}
use Rattle.std.proofs.lemmas.Str.Pattern.{IsSplitOnceResult, split_once_first}
use Rattle.sql_print.specs.Spelling.{inside}

at_first : (q : ℕ) (bs : List ℕ) → position_or_len (λ b. b == q) bs < length bs
    → flat_map (inside q) bs ≡ before_first (λ b. b == q) bs ++ (q ∷ q ∷ flat_map (inside q) (after_first (λ b. b == q) bs))
at_first q [] h = absurd (omega arith)
at_first q (b ∷ bs) h =
    let p = position_or_len (λ b. b == q) bs in
    (elim (b == q) as (λ t. cond (not t) (1 + p) 0 < length (b ∷ bs)
    → cond t (q ∷ q ∷ []) (b ∷ []) ++ flat_map (inside q) bs
    ≡ take (cond (not t) (1 + p) 0) (b ∷ bs) ++ (q ∷ q ∷ flat_map (inside q) (drop (cond (not t) (1 + p) 0 + 1) (b ∷ bs)))) [
      | true ↦ λ _. grind (arith, common_steps)
      | false ↦ λ inner. grind (arith, common_steps, at_first q bs (omega arith))
    ]) h

without : (q : ℕ) (bs : List ℕ) → position_or_len (λ b. b == q) bs ≡ length bs → flat_map (inside q) bs ≡ bs
without q [] h = refl
without q (b ∷ bs) h =
    let p = position_or_len (λ b. b == q) bs in
    (elim (b == q) as (λ t. cond (not t) (1 + p) 0 ≡ length (b ∷ bs)
    → cond t (q ∷ q ∷ []) (b ∷ []) ++ flat_map (inside q) bs ≡ b ∷ bs) [
      | true ↦ λ inner. absurd (omega arith)
      | false ↦ λ inner. ap (λ xs. b ∷ xs) (without q bs (omega arith))
    ]) h

module _ (q : ℕ) (ascii : q < 128) (text : List ℕ) (r : Option (Bor (List ℕ) × Bor (List ℕ))) (split : IsSplitOnceResult q text r) where
  -- in front of the first quote the text stands as it is, behind it the rest is written
  pub cut : (x : Bor (List ℕ) × Bor (List ℕ)) → r ≡ Some x
      → (flat_map (inside q) text ≡ x.0.now ++ (q ∷ q ∷ flat_map (inside q) x.1.now)) × (length x.1.now < length text)
  cut x is =
      let (there, front, back) = rw is at (split_once_first q text r split ascii) in (
        at_first q text there
            ∙ ap (λ xs. xs ++ (q ∷ q ∷ flat_map (inside q) (after_first (λ b. b == q) text))) (sym front)
            ∙ ap (λ xs. x.0.now ++ (q ∷ q ∷ flat_map (inside q) xs)) (sym back),
        grind (arith, common_steps, back),
      )

  -- without a quote it stands as it is
  pub lacks : r ≡ None → flat_map (inside q) text ≡ text
  lacks is = without q text (rw is at (split_once_first q text r split ascii))

-- the same, where the two parts are at hand
pub cut_at : (q : ℕ) → q < 128 → (text : List ℕ) (front back : Bor (List ℕ)) → IsSplitOnceResult q text (Some (front, back))
    → flat_map (inside q) text ≡ front.now ++ (q ∷ q ∷ flat_map (inside q) back.now)
cut_at q ascii text front back split = (cut q ascii text (Some (front, back)) split (front, back) refl).0

pub lacks_at : (q : ℕ) → q < 128 → (text : List ℕ) (r : Option (Bor (List ℕ) × Bor (List ℕ))) → IsSplitOnceResult q text r
    → ((x : Bor (List ℕ) × Bor (List ℕ)) → r ≡ Some x → ⊥) → flat_map (inside q) text ≡ text
lacks_at q ascii text None split none = lacks q ascii text None split refl
lacks_at q ascii text (Some x) split none = absurd (none x refl)

-- a part, and the quote twice
pub glued : (onto one two three front back rest all once : List ℕ) (q : ℕ) → one ≡ onto ++ front → two ≡ one ++ once → three ≡ two ++ once
    → once ≡ q ∷ [] → rest ≡ front ++ (q ∷ q ∷ back) → onto ++ rest ≡ all → three ++ back ≡ all
glued onto one two three front back rest all once q a b c u r inv =
    let shown : (((onto ++ front) ++ q ∷ []) ++ q ∷ []) ++ back ≡ onto ++ (front ++ (q ∷ q ∷ back)) = simp append_assoc in
    rw c (rw b (rw a (rw u (shown ∙ ap (λ xs. onto ++ xs) (sym r) ∙ inv))))
