use Rattle.std.proofs.Common.{◌≡◌, ◌<◌, ℕ, suc, zero, Bool, true, false, IsTrue, List, [], ◌∷◌, subst, sym, arith}
use Rattle.std.specs.Prelude.{All}

-- no zero byte stands in a text, as a test
abbrev pub positive : List ℕ → Bool
positive [] = true
positive (zero ∷ xs) = false
positive (suc n ∷ xs) = positive xs

false_is_not_true : false ≡ true → ⊥
false_is_not_true e = cc

all_positive : (xs : List ℕ) → IsTrue (positive xs) → All (λ b. 0 < b) xs
all_positive [] t k d h = absurd (omega arith)
all_positive (zero ∷ xs) t k d h = absurd (false_is_not_true t)
all_positive (suc n ∷ xs) t zero d h = omega arith
all_positive (suc n ∷ xs) t (suc k) d h = all_positive xs t k d (omega arith)

pub is_string : (text bytes : List ℕ) → text ≡ bytes → IsTrue (positive bytes) → All (λ b. 0 < b) text
is_string text bytes e test =
    let P : List ℕ → Type 0 = λ xs. All (λ b. 0 < b) xs in
    subst P (sym e) (all_positive bytes test)
