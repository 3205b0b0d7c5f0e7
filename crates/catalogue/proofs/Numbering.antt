-- Lists of items that are numbered from 0 on, as far as a loop has come.
use Rattle.std.proofs.Common.{◌≡◌, ℕ, suc, ◌+◌, ◌<◌, ◌≤◌, get_or, drop, length, List, [], ◌∷◌, ◌++◌, refl, ap, sym, ◌∙◌, subst, append_assoc, add-one}
use Rattle.std.proofs.lemmas.List.{at_drop_more, at_drop_all, append-nil}

module _ {A B : Type 0} (numbers : ℕ → List A → List B) (make : ℕ → A → B) (xs : List A) (i : ℕ) (front : List B) where
  pub numbers_next : (n : ℕ) (x : A) (pushed : List B) → ((k : ℕ) (y : A) (ys : List A) → numbers k (y ∷ ys) ≡ make k y ∷ numbers (suc k) ys)
      → i < length xs → x ≡ get_or xs i x → n ≡ i → numbers 0 xs ≡ front ++ numbers i (drop i xs) → pushed ≡ front ++ make n x ∷ []
      → numbers 0 xs ≡ pushed ++ numbers (i + 1) (drop (i + 1) xs)
  numbers_next n x pushed goes below is n_is so_far pushed_is =
      let rest : List B = numbers (i + 1) (drop (i + 1) xs) in
      so_far ∙ (ap (λ (zs : List B). front ++ zs) (at_drop_more (numbers i) xs i x below
      ∙ (goes i (get_or xs i x) (drop (i + 1) xs)
      ∙ (ap (λ (z : A). make i z ∷ numbers (suc i) (drop (i + 1) xs)) (sym is)
      ∙ (ap (λ (k : ℕ). make i x ∷ numbers k (drop (i + 1) xs)) (sym (add-one i))
      ∙ ap (λ (k : ℕ). make k x ∷ rest) (sym n_is)))))
      ∙ (sym (append_assoc front (make n x ∷ []) rest) ∙ ap (λ (zs : List B). zs ++ rest) (sym pushed_is)))

  pub numbers_whole : numbers i [] ≡ [] → length xs ≤ i → numbers 0 xs ≡ front ++ numbers i (drop i xs) → front ≡ numbers 0 xs
  numbers_whole none all so_far =
      sym (so_far ∙ (ap (λ (zs : List B). front ++ zs) (at_drop_all (numbers i) xs i all ∙ none) ∙ append-nil front))
