-- Lists that are walked from their front.
use Rattle.std.proofs.Common.{◌≡◌, ℕ, ◌<◌, ◌≤◌, ◌+◌, suc, zero, Bool, true, false, eqb, List, [], ◌∷◌, length, drop, get_or, add-one, refl, sym, ap, ◌∙◌, arith}
use Rattle.std.proofs.lemmas.Bool.{false≢true}
use Rattle.std.proofs.lemmas.Bool.Decides.{Decides-eqb}

pub some_item : {A : Type 0} (xs : List A) (b : Bool) → b ≡ eqb (length xs) 0 → b ≡ false → xs ≡ [] → ⊥
some_item xs b is not none = false≢true (sym not ∙ is ∙ ap (λ ys. eqb (length ys) 0) none)

pub none_left : {A : Type 0} (xs : List A) (b : Bool) → b ≡ eqb (length xs) 0 → b ≡ true → xs ≡ []
none_left [] b is true_is = refl
none_left (x ∷ xs) b is true_is = let none : length (x ∷ xs) ≡ 0 = (Decides-eqb (length (x ∷ xs)) 0).0 (sym is ∙ true_is) in absurd (omega arith)

drop_suc : {A : Type 0} (xs : List A) (i : ℕ) (x : A) → i < length xs → x ≡ get_or xs i x → drop i xs ≡ x ∷ drop (suc i) xs
drop_suc [] i x below is = absurd (omega arith)
drop_suc (y ∷ xs) zero x below is = ap (λ z. z ∷ xs) (sym is)
drop_suc (y ∷ xs) (suc i) x below is = drop_suc xs i x (omega arith) is

pub drop_here : {A : Type 0} (xs : List A) (i : ℕ) (x : A) → i < length xs → x ≡ get_or xs i x → drop i xs ≡ x ∷ drop (i + 1) xs
drop_here xs i x below is = rw add-one (drop_suc xs i x below is)

drop_nil : {A : Type 0} (i : ℕ) → drop {A = A} i [] ≡ []
drop_nil zero = refl
drop_nil (suc i) = refl

pub drop_none : {A : Type 0} (xs : List A) (i : ℕ) → length xs ≤ i → drop i xs ≡ []
drop_none [] i below = drop_nil i
drop_none (x ∷ xs) zero below = absurd (omega arith)
drop_none (x ∷ xs) (suc i) below = drop_none xs i (omega arith)
