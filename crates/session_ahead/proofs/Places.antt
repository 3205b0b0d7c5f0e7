-- The places of a list that is mapped, and of one more behind it.
use Rattle.std.proofs.Common.{◌≡◌, ℕ, zero, suc, Some, None, List, [], ◌∷◌, ◌++◌, length, refl, sym, ap, subst, arith}
use Rattle.std.specs.Prelude.{Option, Result, Ok, Err, IfOk, Bool, true, false, ◌==◌, map, option_to_list, if◌then◌else◌}
use Rattle.std.specs.List.{slice_get}
use Rattle.std.proofs.lemmas.Bool.{eqb-true, eqb-false}

pub place_in : {A B : Type 0} (f : A → B) (xs : List A) (o : Option B) (at : ℕ) (x : A) → Some x ≡ slice_get xs at
    → Some (f x) ≡ slice_get (map f xs ++ option_to_list o) at
place_in f [] o at x is = absurd (cc)
place_in f (y ∷ xs) o zero x is = let same : x ≡ y = cc in ap (λ z. Some (f z)) same
place_in f (y ∷ xs) o (suc at) x is = place_in f xs o at x is

pub place_behind : {A B : Type 0} (f : A → B) (xs : List A) (o : Option B) (at : ℕ) → at ≡ length xs
    → o ≡ slice_get (map f xs ++ option_to_list o) at
place_behind f [] None zero is = refl
place_behind f [] (Some y) zero is = refl
place_behind f [] o (suc at) is = absurd (omega arith)
place_behind f (y ∷ xs) o zero is = absurd (omega arith)
place_behind f (y ∷ xs) o (suc at) is = place_behind f xs o at (omega arith)

pub place_past : {A B : Type 0} (f : A → B) (xs : List A) (o : Option B) (at : ℕ) → None ≡ slice_get xs at → (at ≡ length xs → ⊥)
    → None ≡ slice_get (map f xs ++ option_to_list o) at
place_past f [] None at is not_behind = refl
place_past f [] (Some y) zero is not_behind = absurd (not_behind refl)
place_past f [] (Some y) (suc at) is not_behind = refl
place_past f (y ∷ xs) o zero is not_behind = absurd (cc)
place_past f (y ∷ xs) o (suc at) is not_behind = place_past f xs o at is (λ e. not_behind (omega (arith, e)))

place_rest : {A B : Type 0} (f : A → B) (xs : List A) (o : Option B) (at : ℕ) (t : Bool) → (at == length xs) ≡ t → None ≡ slice_get xs at
    → (if t then o else None) ≡ slice_get (map f xs ++ option_to_list o) at
place_rest f xs o at true is none = place_behind f xs o at (eqb-true at (length xs) is)
place_rest f xs o at false is none = place_past f xs o at none (eqb-false at (length xs) is)

-- behind so many, the one more or nothing
pub behind_answer : {A B E : Type 0} (f : A → B) (xs : List A) (o : Option B) (at count : ℕ) (result : Result (Option B) E)
    → None ≡ slice_get xs at → count ≡ length xs → IfOk result (λ post. post ≡ if at == count then o else None)
    → IfOk result (λ post. post ≡ slice_get (map f xs ++ option_to_list o) at)
behind_answer f xs o at count (Err fault) none is told = tt
behind_answer f xs o at count (Ok post) none is told =
    let here : (if at == count then o else None) ≡ slice_get (map f xs ++ option_to_list o) at =
    subst (λ (n : ℕ). (if at == n then o else None) ≡ slice_get (map f xs ++ option_to_list o) at) (sym is)
    (place_rest f xs o at (at == length xs) refl none) in
    rw told here
