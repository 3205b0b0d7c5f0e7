-- Lines that are walked from their front.
use Rattle.std.proofs.Common.{◌≡◌, ℕ, ◌<◌, ◌≤◌, ◌+◌, suc, zero, List, [], ◌∷◌, ◌++◌, map, take, length, drop, get_or, add-one, refl, sym, ap, ◌∙◌, subst, arith}
use Rattle.std.specs.List.{AllByRecursion}
use Rattle.std.proofs.lemmas.List.{take_more, take-append-drop, map-append}

drop_suc : {A : Type 0} (xs : List A) (i : ℕ) (x : A) → i < length xs → x ≡ get_or xs i x → drop i xs ≡ x ∷ drop (suc i) xs
drop_suc [] i x below is = absurd (omega arith)
drop_suc (y ∷ xs) zero x below is = ap (λ z. z ∷ xs) (sym is)
drop_suc (y ∷ xs) (suc i) x below is = drop_suc xs i x (omega arith) is

pub drop_here : {A : Type 0} (xs : List A) (i : ℕ) (x : A) → i < length xs → x ≡ get_or xs i x → drop i xs ≡ x ∷ drop (i + 1) xs
drop_here xs i x below is = rw add-one (drop_suc xs i x below is)

-- one more of the lines was walked
pub taken : {A L : Type 0} (f : A → L) (xs : List A) (i : ℕ) (x : A) → i < length xs → x ≡ get_or xs i x → map f (take (i + 1) xs) ≡ map f (take i xs) ++ f x ∷ []
taken f xs i x below is =
    ap (map f) (take_more xs i x below ∙ ap (λ y. take i xs ++ y ∷ []) (sym is)) ∙ map-append f (take i xs) (x ∷ [])

-- the lines that were walked, the next one, and those behind it
pub parted : {A L : Type 0} (f : A → L) (xs : List A) (i : ℕ) (x : A) → i < length xs → x ≡ get_or xs i x → map f xs ≡ map f (take i xs) ++ f x ∷ map f (drop (i + 1) xs)
parted f xs i x below is =
    ap (map f) (sym (take-append-drop i xs)) ∙ (map-append f (take i xs) (drop i xs) ∙ ap (λ z. map f (take i xs) ++ map f z) (drop_here xs i x below is))

pub taken_all : {A : Type 0} (xs : List A) (i : ℕ) → length xs ≤ i → take i xs ≡ xs
taken_all [] zero past = refl
taken_all [] (suc i) past = refl
taken_all (x ∷ xs) zero past = absurd (omega arith)
taken_all (x ∷ xs) (suc i) past = ap (λ z. x ∷ z) (taken_all xs i (omega arith))

-- what holds of all lines that are left holds of the next, and of all behind it
pub here_of : {A L : Type 0} (f : A → L) (P : L → Type 0) (xs : List A) (i : ℕ) (x : A) → i < length xs → x ≡ get_or xs i x
    → AllByRecursion P (map f (drop i xs)) → P (f x) × AllByRecursion P (map f (drop (i + 1) xs))
here_of f P xs i x below is all = subst (λ z. AllByRecursion P (map f z)) (drop_here xs i x below is) all
