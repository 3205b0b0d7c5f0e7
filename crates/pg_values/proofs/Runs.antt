-- Runs of bytes at the front of a text.
use Rattle.std.proofs.Common.{◌≡◌, ℕ, ◌-◌, Bool, true, false, cond, eqb, List, [], ◌∷◌, ◌++◌, length, take, refl, ap, arith}
use Rattle.std.specs.Char.{is_ascii_digit}
use Rattle.std.proofs.lemmas.List.{take_at, length-append}
use Rattle.pg_values.specs.Reading.{digits_front, digits_rest, word_front, word_rest}

-- a run and what follows it are the whole text
pub digits_parts : (text : List ℕ) → digits_front text ++ digits_rest text ≡ text
digits_parts [] = refl
digits_parts (b ∷ rest) = go (digits_parts rest) (is_ascii_digit b)
  where
    go : digits_front rest ++ digits_rest rest ≡ rest → (t : Bool) → cond t (b ∷ digits_front rest) [] ++ cond t (digits_rest rest) (b ∷ rest) ≡ b ∷ rest
    go e true = ap (λ (xs : List ℕ). b ∷ xs) e
    go e false = refl

pub word_parts : (text : List ℕ) → word_front text ++ word_rest text ≡ text
word_parts [] = refl
word_parts (b ∷ rest) = go (word_parts rest) (eqb b 32)
  where
    go : word_front rest ++ word_rest rest ≡ rest → (t : Bool) → cond t [] (b ∷ word_front rest) ++ cond t (b ∷ rest) (word_rest rest) ≡ b ∷ rest
    go e true = refl
    go e false = ap (λ (xs : List ℕ). b ∷ xs) e

front_is : (text front rest : List ℕ) → front ++ rest ≡ text → take (length text - length rest) text ≡ front
front_is text front rest e =
    let n : length text - length rest ≡ length front = omega (arith, length-append front rest, ap length e) in
    rw (n, ← e) (take_at front rest (length front) refl)

pub digits_front_is : (text : List ℕ) → take (length text - length (digits_rest text)) text ≡ digits_front text
digits_front_is text = front_is text (digits_front text) (digits_rest text) (digits_parts text)

pub word_front_is : (text : List ℕ) → take (length text - length (word_rest text)) text ≡ word_front text
word_front_is text = front_is text (word_front text) (word_rest text) (word_parts text)
