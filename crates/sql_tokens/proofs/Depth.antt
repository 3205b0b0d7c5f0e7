-- A reader that may nest deeper gives the same, but for TooDeep.
use Rattle.std.proofs.Common.{◌≡◌, ℕ, zero, suc, List, length, Option, Some, None, Result, Ok, Err, refl, sym, subst, ◌∙◌, inl, inr, ◌⊎◌}
use Rattle.sql_tokens.specs.declared.fault.Fault.{Fault}
use Rattle.sql_tokens.specs.declared.fault.Fault.TheVariants.{Syntax, TooDeep}
use Rattle.sql_tokens.specs.Reading.{◌>>=◌, Parse, Marks, tail, tail_step, tails, chained}

abbrev pub IsDeep : {A : Type 0} → Result A Fault → Type 0
IsDeep (Ok x) = ⊥
IsDeep (Err (Syntax n w)) = ⊥
IsDeep (Err (TooDeep n)) = Unit {0}

abbrev pub Same : {A : Type 0} → Result A Fault → Result A Fault → Type 0
Same r s = IsDeep r ⊎ (r ≡ s)

after_deep : {A B : Type 0} (r : Result A Fault) (f : A → Result B Fault) → IsDeep r → IsDeep (r >>= f)
after_deep (Ok x) f h = absurd h
after_deep (Err (Syntax n w)) f h = absurd h
after_deep (Err (TooDeep n)) f h = tt

pub after_same : {A B : Type 0} (r : Result A Fault) (f g : A → Result B Fault) → ((x : A) → Same (f x) (g x)) → Same (r >>= f) (r >>= g)
after_same (Ok x) f g k = k x
after_same (Err e) f g k = inr refl

pub same_then : {A B : Type 0} (r s : Result A Fault) (f g : A → Result B Fault) → Same r s → ((x : A) → Same (f x) (g x)) → Same (r >>= f) (s >>= g)
same_then r s f g (inl h) k = inl (after_deep r f h)
same_then r s f g (inr e) k = subst (λ t. Same (r >>= f) (t >>= g)) e (after_same r f g k)

-- the last step is the same
pub same_last : {A B : Type 0} (r s : Result A Fault) (f : A → Result B Fault) → Same r s → Same (r >>= f) (s >>= f)
same_last r s f h = same_then r s f f h (λ x. inr refl)

module _ {T S A B : Type 0} (marks : Marks T S) (make : S → A → B) (p q : Parse T A) (same : (ts : List T) → Same (p ts) (q ts)) where
  by_mark : (n : ℕ) (ts : List T) (o : Option (S × List T)) → ((mid : List T) → Same (tail marks make p n mid) (tail marks make q n mid)) → Same (tail_step make p (tail marks make p n) ts o) (tail_step make q (tail marks make q n) ts o)
  by_mark n ts None k = inr refl
  by_mark n ts (Some m) k = same_then (p m.1) (q m.1) _ _ (same m.1) (λ x. same_last (tail marks make p n x.1) (tail marks make q n x.1) _ (k x.1))

  pub same_tail : (n : ℕ) (ts : List T) → Same (tail marks make p n ts) (tail marks make q n ts)
  unfolding tail
  same_tail zero ts = inr refl
  same_tail (suc n) ts = by_mark n ts (marks ts) (λ mid. same_tail n mid)

pub same_chained : {T S A B C D : Type 0} (marks : Marks T S) (make : S → A → B) (p q : Parse T A) (whole : C → List B → D) (f g : Parse T C)
    → ((ts : List T) → Same (p ts) (q ts)) → ((ts : List T) → Same (f ts) (g ts)) → (ts : List T) → Same (chained marks make p whole f ts) (chained marks make q whole g ts)
same_chained marks make p q whole f g same same_f ts = same_then (f ts) (g ts) _ _ (same_f ts) (λ x. same_last (tails marks make p x.1) (tails marks make q x.1) _ (same_tail marks make p q same (length x.1) x.1))

-- what is no TooDeep stays, however deep one may nest
abbrev pub past : ℕ → ℕ → ℕ
past zero d = d
past (suc k) d = suc (past k d)

chosen : {A : Type 0} (r s : Result A Fault) → Same r s → (IsDeep r → ⊥) → r ≡ s
chosen r s (inl h) k = absurd (k h)
chosen r s (inr e) k = e

pub stays_past : {A : Type 0} (at : ℕ → Result A Fault) → ((d : ℕ) → Same (at d) (at (suc d))) → (k d : ℕ) → (IsDeep (at d) → ⊥) → at d ≡ at (past k d)
stays_past at same zero d h = refl
stays_past at same (suc k) d h =
    let one : at d ≡ at (past k d) = stays_past at same k d h in
    one ∙ chosen (at (past k d)) (at (suc (past k d))) (same (past k d)) (λ x. h (subst IsDeep (sym one) x))
