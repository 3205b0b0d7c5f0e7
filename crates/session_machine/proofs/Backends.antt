-- A backend is its number, and the first of the eight that passes a test.
use Rattle.std.proofs.Common.{◌≡◌, ◌<◌, ℕ, Bool, true, false, List, [], ◌∷◌, Some, zero, suc, refl, sym, ap, subst, arith}
use Rattle.std.specs.Prelude.{Option, find, if◌then◌else◌}
use mathlib.Core.HLevel.{is_prop→PathP}
use native.Mathlib.Bridge.{le_prop}
use lib.Dec.{lit<}
use Rattle.pool_base.specs.declared.backend_id.BackendId.{BackendId}
use Rattle.session_machine.specs.Answers.{all_backends}

pub same_backend : (b c : BackendId) → b.number ≡ c.number → b ≡ c
same_backend b c e = λ i. record { number = e i; below_8 = is_prop→PathP (λ j. e j < 8) (λ j. le_prop) b.below_8 c.below_8 i }

abbrev b0 : BackendId
b0 = record { number = 0; below_8 = lit< tt }

abbrev b1 : BackendId
b1 = record { number = 1; below_8 = lit< tt }

abbrev b2 : BackendId
b2 = record { number = 2; below_8 = lit< tt }

abbrev b3 : BackendId
b3 = record { number = 3; below_8 = lit< tt }

abbrev b4 : BackendId
b4 = record { number = 4; below_8 = lit< tt }

abbrev b5 : BackendId
b5 = record { number = 5; below_8 = lit< tt }

abbrev b6 : BackendId
b6 = record { number = 6; below_8 = lit< tt }

abbrev b7 : BackendId
b7 = record { number = 7; below_8 = lit< tt }

-- eight backends with the numbers 0 to 7 are all
pub backends_are : (a b c d e f g h : BackendId) → a.number ≡ 0 → b.number ≡ 1 → c.number ≡ 2 → d.number ≡ 3
    → e.number ≡ 4 → f.number ≡ 5 → g.number ≡ 6 → h.number ≡ 7
    → (a ∷ b ∷ c ∷ d ∷ e ∷ f ∷ g ∷ h ∷ []) ≡ all_backends
backends_are a b c d e f g h p q r s t u v w =
    let a' = same_backend a b0 p in
    let b' = same_backend b b1 q in
    let c' = same_backend c b2 r in
    let d' = same_backend d b3 s in
    let e' = same_backend e b4 t in
    let f' = same_backend f b5 u in
    let g' = same_backend g b6 v in
    let h' = same_backend h b7 w in
    cc

-- what holds of each of the eight holds of all below eight
each_below_8 : (P : ℕ → Type 0) → P 0 → P 1 → P 2 → P 3 → P 4 → P 5 → P 6 → P 7 → (n : ℕ) → n < 8 → P n
each_below_8 P a b c d e f g h zero l = a
each_below_8 P a b c d e f g h (suc zero) l = b
each_below_8 P a b c d e f g h (suc (suc zero)) l = c
each_below_8 P a b c d e f g h (suc (suc (suc zero))) l = d
each_below_8 P a b c d e f g h (suc (suc (suc (suc zero)))) l = e
each_below_8 P a b c d e f g h (suc (suc (suc (suc (suc zero))))) l = f
each_below_8 P a b c d e f g h (suc (suc (suc (suc (suc (suc zero)))))) l = g
each_below_8 P a b c d e f g h (suc (suc (suc (suc (suc (suc (suc zero))))))) l = h
each_below_8 P a b c d e f g h (suc (suc (suc (suc (suc (suc (suc (suc n)))))))) l = absurd (omega arith)

-- the one of this number passes, and none below it
abbrev IsFirst : (BackendId → Bool) → ℕ → Type 0
IsFirst p n = (b : BackendId) → b.number ≡ n → p b ≡ true → ((c : BackendId) → c.number < n → p c ≡ false) → find p all_backends ≡ Some b

-- the same test at the same backend
passes : (p : BackendId → Bool) (b c : BackendId) → b.number ≡ c.number → p b ≡ true → p c ≡ true
passes p b c e h = subst (λ (x : BackendId). p x ≡ true) (same_backend b c e) h

some_same : (b c : BackendId) → b.number ≡ c.number → Some c ≡ Some b
some_same b c e = ap (λ (x : BackendId). Some x) (sym (same_backend b c e))

pub find_first : (p : BackendId → Bool) (b : BackendId) → p b ≡ true → ((c : BackendId) → c.number < b.number → p c ≡ false) → find p all_backends ≡ Some b
find_first p b there none =
    each_below_8 (IsFirst p)
    (λ b is there none. rw (passes p b b0 is there) (some_same b b0 is))
    (λ b is there none. rw (none b0 (lit< tt)) (rw (passes p b b1 is there) (some_same b b1 is)))
    (λ b is there none. rw (none b0 (lit< tt)) (rw (none b1 (lit< tt)) (rw (passes p b b2 is there) (some_same b b2 is))))
    (λ b is there none. rw (none b0 (lit< tt)) (rw (none b1 (lit< tt)) (rw (none b2 (lit< tt)) (rw (passes p b b3 is there) (some_same b b3 is)))))
    (λ b is there none. rw (none b0 (lit< tt)) (rw (none b1 (lit< tt)) (rw (none b2 (lit< tt)) (rw (none b3 (lit< tt)) (rw (passes p b b4 is there) (some_same b b4 is))))))
    (λ b is there none. rw (none b0 (lit< tt)) (rw (none b1 (lit< tt)) (rw (none b2 (lit< tt)) (rw (none b3 (lit< tt)) (rw (none b4 (lit< tt)) (rw (passes p b b5 is there) (some_same b b5 is)))))))
    (λ b is there none. rw (none b0 (lit< tt)) (rw (none b1 (lit< tt)) (rw (none b2 (lit< tt)) (rw (none b3 (lit< tt)) (rw (none b4 (lit< tt)) (rw (none b5 (lit< tt)) (rw (passes p b b6 is there) (some_same b b6 is))))))))
    (λ b is there none. rw (none b0 (lit< tt)) (rw (none b1 (lit< tt)) (rw (none b2 (lit< tt)) (rw (none b3 (lit< tt)) (rw (none b4 (lit< tt)) (rw (none b5 (lit< tt)) (rw (none b6 (lit< tt)) (rw (passes p b b7 is there) (some_same b b7 is)))))))))
    b.number b.below_8 b refl there none

-- what is found passes
found_step : (p : BackendId → Bool) (x b : BackendId) (rest : Option BackendId) (t : Bool) → p x ≡ t → (rest ≡ Some b → p b ≡ true)
    → (if t then Some x else rest) ≡ Some b → p b ≡ true
found_step p x b rest true is later e = let same : x ≡ b = cc in subst (λ (y : BackendId). p y ≡ true) same is
found_step p x b rest false is later e = later e

pub found_passes : (p : BackendId → Bool) (xs : List BackendId) (b : BackendId) → find p xs ≡ Some b → p b ≡ true
found_passes p [] b e = absurd (cc)
found_passes p (x ∷ xs) b e = found_step p x b (find p xs) (p x) refl (found_passes p xs b) e
