-- Functions of a number of which one value has changed.
use Rattle.std.proofs.Common.{◌≡◌, ◌≢◌, ℕ, refl, sym, subst, inl, inr}
use Rattle.std.specs.Prelude.{◌⊎◌, if◌then◌else◌}
use Rattle.std.proofs.lemmas.Bool.Decides.{eqb_tells}
use Rattle.backend_trait.specs.Rows.{with_at}

-- either the same number, or another
pub same_or_other : (a b : ℕ) → (a ≡ b) ⊎ (a ≢ b)
same_or_other a b = elim (eqb_tells a b) [ inl p ↦ inl p.1 | inr p ↦ inr p.1 ]

pub with_at-same : {A : Type 0} (f : ℕ → A) (i : ℕ) (x : A) → with_at f i x i ≡ x
with_at-same f i x = elim (eqb_tells i i) [
  | inl p ↦ (λ k. if p.0 k then x else f i)
  | inr p ↦ absurd (p.1 refl)
]

pub with_at-other : {A : Type 0} (f : ℕ → A) (i : ℕ) (x : A) (j : ℕ) → j ≢ i → with_at f i x j ≡ f j
with_at-other f i x j other = elim (eqb_tells j i) [
  | inl p ↦ absurd (other p.1)
  | inr p ↦ (λ k. if p.0 k then x else f j)
]

-- a fact of each number
pub each_at : {A : Type 0} (P : ℕ → A → Type 0) (f : ℕ → A) (s : ℕ) (x : A) → P s x → ((o : ℕ) → o ≢ s → P o (f o)) → (o : ℕ) → P o (with_at f s x o)
each_at P f s x here others o = elim (same_or_other o s) [
  | inl e ↦ subst (λ j. P j (with_at f s x j)) (sym e) (subst (P s) (sym (with_at-same f s x)) here)
  | inr other ↦ subst (P o) (sym (with_at-other f s x o other)) (others o other)
]

pub each_at2 : {A B : Type 0} (P : ℕ → A → B → Type 0) (f : ℕ → A) (g : ℕ → B) (s : ℕ) (x : A) (y : B) → P s x y → ((o : ℕ) → o ≢ s → P o (f o) (g o)) → (o : ℕ) → P o (with_at f s x o) (with_at g s y o)
each_at2 P f g s x y here others o = elim (same_or_other o s) [
  | inl e ↦ subst (λ j. P j (with_at f s x j) (with_at g s y j)) (sym e) (subst (λ a. P s a (with_at g s y s)) (sym (with_at-same f s x)) (subst (P s x) (sym (with_at-same g s y)) here))
  | inr other ↦ subst (λ a. P o a (with_at g s y o)) (sym (with_at-other f s x o other)) (subst (P o (f o)) (sym (with_at-other g s y o other)) (others o other))
]

pub each_at4 : {A B C D : Type 0} (P : ℕ → A → B → C → D → Type 0) (f : ℕ → A) (g : ℕ → B) (h : ℕ → C) (k : ℕ → D) (s : ℕ) (x : A) (y : B) (z : C) (w : D)
    → P s x y z w → ((o : ℕ) → o ≢ s → P o (f o) (g o) (h o) (k o)) → (o : ℕ) → P o (with_at f s x o) (with_at g s y o) (with_at h s z o) (with_at k s w o)
each_at4 P f g h k s x y z w here others =
    each_at2 (λ o a b. P o a b (with_at h s z o) (with_at k s w o)) f g s x y
    (subst (λ c. P s x y c (with_at k s w s)) (sym (with_at-same h s z)) (subst (P s x y z) (sym (with_at-same k s w)) here))
    (λ o other. subst (λ c. P o (f o) (g o) c (with_at k s w o)) (sym (with_at-other h s z o other)) (subst (P o (f o) (g o) (h o)) (sym (with_at-other k s w o other)) (others o other)))
