-- Steps of loops, whose next step counts or lists what came before.
use Rattle.std.proofs.Common.{◌≡◌, ℕ, suc, ◌+◌, ◌<◌, ◌≤◌, get_or, take, length, List, [], ◌∷◌, ◌++◌, refl, ap, sym, ◌∙◌, subst, arith}
use Rattle.std.specs.Prelude.{Result, Ok, Err}
use Rattle.typed_sql.specs.declared.fault.CheckFault.{CheckFault}
use Rattle.typed_sql.specs.Steps.{Known, Step, Walk, reached, Answers}
use Rattle.typed_sql.proofs.Walking.{walk_next, walk_stops, walk_whole, reached_more}

-- a walk that counts leaves behind how many there were
pub reached_count : {B : Type 0} (n : ℕ) (ys : List B) → reached (λ (before : ℕ) (y : B). suc before) n ys ≡ n + length ys
reached_count n [] = let e : n ≡ n + 0 = omega arith in e
reached_count n (y ∷ ys) = let e : suc n + length ys ≡ n + suc (length ys) = omega arith in reached_count (suc n) ys ∙ e

reached_all : {B : Type 0} (ys : List B) → length ys ≡ reached (λ (before : ℕ) (y : B). suc before) 0 ys
reached_all ys = let e : 0 + length ys ≡ length ys = omega arith in sym (reached_count 0 ys ∙ e)

module _ {A B : Type 0} (step : ℕ → A → Step B) (xs : List A) (i : ℕ) (x : A) (ys : List B) (at : ℕ) (known mid : Known) where
  pub counted_next : (pushed : List B) (y : B) (new : Known) → i < length xs → x ≡ get_or xs i x
      → Walk step (λ before y. suc before) 0 (take i xs) known (Ok (ys, mid)) → at ≡ length ys → step at x mid (Ok (y, new)) → pushed ≡ ys ++ y ∷ []
      → Walk step (λ before y. suc before) 0 (take (i + 1) xs) known (Ok (pushed, new))
  counted_next pushed y new below is so_far at_is gives pushed_is =
      subst (λ (zs : List B). Walk step (λ before y. suc before) 0 (take (i + 1) xs) known (Ok (zs, new))) (sym pushed_is)
      (walk_next step (λ before y. suc before) 0 xs i x ys y known mid new below is so_far
      (subst (λ (n : ℕ). step n x mid (Ok (y, new))) (at_is ∙ reached_all ys) gives))

  pub counted_stops : {C D : Type 0} (view : C → B) (shown : D → List B) (m n : Known) (e : CheckFault) → i < length xs → x ≡ get_or xs i x
      → Walk step (λ before y. suc before) 0 (take i xs) known (Ok (ys, mid)) → at ≡ length ys → Answers view (Err e) m (step at x mid)
      → Answers shown (Err e) n (Walk step (λ before y. suc before) 0 xs known)
  counted_stops {C} view shown m n e below is so_far at_is fails =
      walk_stops step (λ before y. suc before) view shown 0 xs i x ys known mid m n e below is so_far
      (subst (λ (k : ℕ). Answers view (Err e) m (step k x mid)) (at_is ∙ reached_all ys) fails)

module _ {A B : Type 0} (of : B → ℕ) (step : List ℕ → A → Step B) (xs : List A) (i : ℕ) (x : A) (ys : List B) (before : List ℕ) (known mid : Known) where
  abbrev pub IsListed : List ℕ → List A → List B → Known → Type 0
  IsListed before walked ys mid =
      Walk step (λ before y. before ++ of y ∷ []) [] walked known (Ok (ys, mid)) × (before ≡ reached (λ (before : List ℕ) (y : B). before ++ of y ∷ []) [] ys)

  pub listed_next : (pushed : List B) (listed : List ℕ) (y : B) (new : Known) → i < length xs → x ≡ get_or xs i x
      → IsListed before (take i xs) ys mid → step before x mid (Ok (y, new)) → pushed ≡ ys ++ y ∷ [] → listed ≡ before ++ of y ∷ []
      → IsListed listed (take (i + 1) xs) pushed new
  listed_next pushed listed y new below is so_far gives pushed_is listed_is = (
    subst (λ (zs : List B). Walk step (λ before y. before ++ of y ∷ []) [] (take (i + 1) xs) known (Ok (zs, new))) (sym pushed_is)
        (walk_next step (λ before y. before ++ of y ∷ []) [] xs i x ys y known mid new below is so_far.0
        (subst (λ (b : List ℕ). step b x mid (Ok (y, new))) so_far.1 gives)),
    listed_is ∙ (ap (λ b. b ++ of y ∷ []) so_far.1
        ∙ (sym (reached_more step (λ (before : List ℕ) (y : B). before ++ of y ∷ []) [] ys y)
        ∙ ap (reached (λ (before : List ℕ) (y : B). before ++ of y ∷ []) []) (sym pushed_is))),
  )

  pub listed_stops : {C D : Type 0} (view : C → B) (shown : D → List B) (m n : Known) (e : CheckFault) → i < length xs → x ≡ get_or xs i x
      → IsListed before (take i xs) ys mid → Answers view (Err e) m (step before x mid)
      → Answers shown (Err e) n (Walk step (λ before y. before ++ of y ∷ []) [] xs known)
  listed_stops view shown m n e below is so_far fails =
      walk_stops step (λ before y. before ++ of y ∷ []) view shown [] xs i x ys known mid m n e below is so_far.0
      (subst (λ (b : List ℕ). Answers view (Err e) m (step b x mid)) so_far.1 fails)
