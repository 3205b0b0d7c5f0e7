-- The kept answer: that of the largest group of equal answers, and of two as large, of the one with
-- the lowest number in it.
use Rattle.std.specs.Prelude.{◌≡◌, ℕ, zero, suc, ◌+◌, ◌<◌, ◌≤◌, Bool, true, false, not, if◌then◌else◌, Option, Some, None}
use Rattle.write_path.specs.Slots.{has_answer}

-- how many numbers below n pass
abbrev pub count_below : ℕ → (ℕ → Bool) → ℕ
count_below zero p = 0
count_below (suc n) p = count_below n p + (if p n then 1 else 0)

abbrev pub is_some_like : {A : Type 0} → (A → A → Bool) → A → Option A → Bool
is_some_like eq a None = false
is_some_like eq a (Some x) = eq x a

-- whether a backend's answer is this one
abbrev pub is_like : {A : Type 0} → (A → A → Bool) → (ℕ → Option A) → A → ℕ → Bool
is_like eq view a b = is_some_like eq a (view b)

-- how many answers are this one
abbrev pub group_size : {A : Type 0} → (A → A → Bool) → (ℕ → Option A) → A → ℕ
group_size eq view a = count_below 8 (is_like eq view a)

abbrev pub size_of : {A : Type 0} → (A → A → Bool) → (ℕ → Option A) → Option A → ℕ
size_of eq view None = 0
size_of eq view (Some a) = group_size eq view a

-- the size of a backend's group, 0 where it has no answer
abbrev pub size_at : {A : Type 0} → (A → A → Bool) → (ℕ → Option A) → ℕ → ℕ
size_at eq view b = size_of eq view (view b)

-- its group is the largest, and no lower backend is in one as large
pub record IsHolder {A : Type 0} (eq : A → A → Bool) (view : ℕ → Option A) (b : ℕ) : Type 0 where
  pub has_one : has_answer view b ≡ true
  pub largest : (k : ℕ) → k < 8 → size_at eq view k ≤ size_at eq view b
  pub lowest : (k : ℕ) → k < b → size_at eq view k < size_at eq view b

abbrev pub differ : {A : Type 0} → (A → A → Bool) → Option A → Option A → Bool
differ eq None own = false
differ eq (Some kept) None = false
differ eq (Some kept) (Some own) = not (eq own kept)

-- whether a backend's answer is another than the holder's
abbrev pub differs_at : {A : Type 0} → (A → A → Bool) → (ℕ → Option A) → ℕ → ℕ → Bool
differs_at eq view holder b = differ eq (view holder) (view b)
