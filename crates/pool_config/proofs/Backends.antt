-- A backend is its number.
use Rattle.std.proofs.Common.{◌-◌, ◌==◌, Bool, false, take, drop, length, slice_index, nat_lt, if◌then◌else◌, arith, zero, suc, Some, None, slice_get, sym, subst, ◌≡◌, ◌<◌, ◌≤◌, ℕ, List, [], ◌∷◌, refl, ap, ◌∙◌}
use mathlib.Core.HLevel.{is_prop→PathP}
use Rattle.std.proofs.lemmas.Bool.Decides.{nat_tests}
use Rattle.pool_config.specs.Names.{of_stem, of_backend, by_digit, numbered_named}
use lib.Dec.{lit<}
use native.Mathlib.Bridge.{le_prop}
use Rattle.pool_base.specs.declared.backend_id.BackendId.{BackendId}
use Rattle.pool_config.specs.Table.{all_backends}

pub same_backend : (b c : BackendId) → b.number ≡ c.number → b ≡ c
same_backend b c e = λ i. record { number = e i; below_8 = is_prop→PathP (λ j. e j < 8) (λ j. le_prop) b.below_8 c.below_8 i }

-- what holds of each of the eight holds of all below eight
pub each_below_8 : (P : ℕ → Type 0) → P 0 → P 1 → P 2 → P 3 → P 4 → P 5 → P 6 → P 7 → (n : ℕ) → n < 8 → P n
each_below_8 P a b c d e f g h zero l = a
each_below_8 P a b c d e f g h (suc zero) l = b
each_below_8 P a b c d e f g h (suc (suc zero)) l = c
each_below_8 P a b c d e f g h (suc (suc (suc zero))) l = d
each_below_8 P a b c d e f g h (suc (suc (suc (suc zero)))) l = e
each_below_8 P a b c d e f g h (suc (suc (suc (suc (suc zero))))) l = f
each_below_8 P a b c d e f g h (suc (suc (suc (suc (suc (suc zero)))))) l = g
each_below_8 P a b c d e f g h (suc (suc (suc (suc (suc (suc (suc zero))))))) l = h
each_below_8 P a b c d e f g h (suc (suc (suc (suc (suc (suc (suc (suc n)))))))) l = absurd (omega arith)

-- the number with the proof that it is one of a backend's
abbrev with_proof : (n : ℕ) → n < 8 → BackendId
with_proof n l = record { number = n; below_8 = l }

numbered_there : (n : ℕ) → n < 8 → (l : n < 8) → slice_get all_backends n ≡ Some (with_proof n l)
numbered_there = each_below_8 (λ n. (l : n < 8) → slice_get all_backends n ≡ Some (with_proof n l))
    (λ l. ap (λ (b : BackendId). Some b) (same_backend _ _ refl)) (λ l. ap (λ (b : BackendId). Some b) (same_backend _ _ refl))
    (λ l. ap (λ (b : BackendId). Some b) (same_backend _ _ refl)) (λ l. ap (λ (b : BackendId). Some b) (same_backend _ _ refl))
    (λ l. ap (λ (b : BackendId). Some b) (same_backend _ _ refl)) (λ l. ap (λ (b : BackendId). Some b) (same_backend _ _ refl))
    (λ l. ap (λ (b : BackendId). Some b) (same_backend _ _ refl)) (λ l. ap (λ (b : BackendId). Some b) (same_backend _ _ refl))

pub backend_at : (b : BackendId) → slice_get all_backends b.number ≡ Some b
backend_at b = numbered_there b.number b.below_8 b.below_8

-- eight backends with the numbers 0 to 7 are all
pub backends_are : (a b c d e f g h : BackendId) → a.number ≡ 0 → b.number ≡ 1 → c.number ≡ 2 → d.number ≡ 3
    → e.number ≡ 4 → f.number ≡ 5 → g.number ≡ 6 → h.number ≡ 7
    → (a ∷ b ∷ c ∷ d ∷ e ∷ f ∷ g ∷ h ∷ []) ≡ all_backends
backends_are a b c d e f g h p q r s t u v w =
    let a' = same_backend a (with_proof 0 (lit< tt)) p in
    let b' = same_backend b (with_proof 1 (lit< tt)) q in
    let c' = same_backend c (with_proof 2 (lit< tt)) r in
    let d' = same_backend d (with_proof 3 (lit< tt)) s in
    let e' = same_backend e (with_proof 4 (lit< tt)) t in
    let f' = same_backend f (with_proof 5 (lit< tt)) u in
    let g' = same_backend g (with_proof 6 (lit< tt)) v in
    let h' = same_backend h (with_proof 7 (lit< tt)) w in
    cc

-- a name of one backend's parameter: its stem and its last digit
pub numbered_is : (name stem digits : List ℕ) (b : BackendId) → stem ≡ take (length name - 1) name → digits ≡ drop (length name - 1) name
    → 1 ≤ length name → 48 ≤ slice_index digits 0 → b.number ≡ slice_index digits 0 - 48 → of_stem stem b ≡ numbered_named name
numbered_is name stem digits b e f some low is =
    let long : (length name == 0) ≡ false = grind (arith, nat_tests) in
    let digit : nat_lt (slice_index digits 0) 48 ≡ false = grind (arith, nat_tests) in
    let there : slice_get all_backends (slice_index digits 0 - 48) ≡ Some b = subst (λ (n : ℕ). slice_get all_backends n ≡ Some b) is (backend_at b) in
    sym (ap (λ (t : Bool). if t then None else by_digit (take (length name - 1) name) (slice_index (drop (length name - 1) name) 0)) long
    ∙ (ap (λ (s : List ℕ). by_digit s (slice_index (drop (length name - 1) name) 0)) (sym e)
    ∙ (ap (λ (d : List ℕ). by_digit stem (slice_index d 0)) (sym f)
    ∙ (ap (λ (t : Bool). if t then None else of_backend stem (slice_get all_backends (slice_index digits 0 - 48))) digit
    ∙ ap (of_backend stem) there))))
