-- What a loop over a list finds in it.
use Rattle.std.proofs.Common.{◌≡◌, ℕ, zero, suc, ◌+◌, ◌<◌, List, [], ◌∷◌, length, get_or, drop, map, add-one, ap, sym, ◌∙◌, arith}
use Rattle.std.specs.Prelude.{◌||◌, Bool as Truth, true, false}
use Rattle.std.specs.List.{list_any}

module _ {X Y : Type 0} (f : X → Y) (test : Y → Truth) where
  any_step : (xs : List X) (n : ℕ) (x : X) → n < length xs → x ≡ get_or xs n x → list_any test (map f (drop n xs)) ≡ (test (f x) || list_any test (map f (drop (suc n) xs)))
  any_step [] n x below is = absurd (omega arith)
  any_step (y ∷ xs) zero x below is = ap (λ (z : X). test (f z) || list_any test (map f xs)) (sym is)
  any_step (y ∷ xs) (suc n) x below is = any_step xs n x (omega arith) is

  pub any_found : (xs : List X) (n : ℕ) (x : X) (told : Truth) → n < length xs → x ≡ get_or xs n x → list_any test (map f (drop n xs)) ≡ list_any test (map f xs)
      → told ≡ test (f x) → told ≡ true → true ≡ list_any test (map f xs)
  any_found xs n x told below is so_far tells found =
      sym (ap (λ (b : Truth). b || list_any test (map f (drop (suc n) xs))) (sym tells ∙ found)) ∙ (sym (any_step xs n x below is) ∙ so_far)

  pub any_passed : (xs : List X) (n : ℕ) (x : X) (told : Truth) → n < length xs → x ≡ get_or xs n x → list_any test (map f (drop n xs)) ≡ list_any test (map f xs)
      → told ≡ test (f x) → told ≡ false → list_any test (map f (drop (n + 1) xs)) ≡ list_any test (map f xs)
  any_passed xs n x told below is so_far tells passed =
      ap (λ (m : ℕ). list_any test (map f (drop m xs))) (add-one n)
      ∙ (sym (ap (λ (b : Truth). b || list_any test (map f (drop (suc n) xs))) (sym tells ∙ passed)) ∙ (sym (any_step xs n x below is) ∙ so_far))
