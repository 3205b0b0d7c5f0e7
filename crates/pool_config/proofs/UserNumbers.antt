-- A user is its number, and how numbers are written.
use Rattle.std.proofs.Common.{◌≡◌, ◌<◌, ◌≤◌, ◌+◌, ◌/◌, ◌%◌, ℕ, zero, suc, Bool, true, false, List, [], ◌∷◌, ◌++◌, Some, None, refl, ap, ap₂, sym, ◌∙◌, slice_get, nat_lt, if◌then◌else◌, arith, lit<}
use mathlib.Core.HLevel.{is_prop→PathP}
use native.Mathlib.Bridge.{le_prop}
use Rattle.std.proofs.lemmas.Bool.Decides.{nat_tests}
use Rattle.std.proofs.lemmas.Option.{slice_get_past}
use Rattle.std.proofs.lemmas.Fmt.{decimal_digit, decimal_step}
use Rattle.std.specs.Fmt.{decimal}
use Rattle.pool_config.specs.Users.{all_users, digits_of}
use Rattle.pool_config.specs.declared.user.UserNumber.{UserNumber}

pub same_user : (b c : UserNumber) → b.number ≡ c.number → b ≡ c
same_user b c e = λ i. record { number = e i; below_16 = is_prop→PathP (λ j. e j < 16) (λ j. le_prop) b.below_16 c.below_16 i }

-- the number with the proof that it is one of a user's
abbrev pub with_proof : (n : ℕ) → n < 16 → UserNumber
with_proof n l = record { number = n; below_16 = l }

-- what holds of each of the sixteen holds of all below sixteen
pub each_below_16 : (P : ℕ → Type 0) → P 0 → P 1 → P 2 → P 3 → P 4 → P 5 → P 6 → P 7
    → P 8 → P 9 → P 10 → P 11 → P 12 → P 13 → P 14 → P 15 → (n : ℕ) → n < 16 → P n
each_below_16 P a0 a1 a2 a3 a4 a5 a6 a7 a8 a9 a10 a11 a12 a13 a14 a15 zero l = a0
each_below_16 P a0 a1 a2 a3 a4 a5 a6 a7 a8 a9 a10 a11 a12 a13 a14 a15 (suc zero) l = a1
each_below_16 P a0 a1 a2 a3 a4 a5 a6 a7 a8 a9 a10 a11 a12 a13 a14 a15 (suc (suc zero)) l = a2
each_below_16 P a0 a1 a2 a3 a4 a5 a6 a7 a8 a9 a10 a11 a12 a13 a14 a15 (suc (suc (suc zero))) l = a3
each_below_16 P a0 a1 a2 a3 a4 a5 a6 a7 a8 a9 a10 a11 a12 a13 a14 a15 (suc (suc (suc (suc zero)))) l = a4
each_below_16 P a0 a1 a2 a3 a4 a5 a6 a7 a8 a9 a10 a11 a12 a13 a14 a15 (suc (suc (suc (suc (suc zero))))) l = a5
each_below_16 P a0 a1 a2 a3 a4 a5 a6 a7 a8 a9 a10 a11 a12 a13 a14 a15 (suc (suc (suc (suc (suc (suc zero)))))) l = a6
each_below_16 P a0 a1 a2 a3 a4 a5 a6 a7 a8 a9 a10 a11 a12 a13 a14 a15 (suc (suc (suc (suc (suc (suc (suc zero))))))) l = a7
each_below_16 P a0 a1 a2 a3 a4 a5 a6 a7 a8 a9 a10 a11 a12 a13 a14 a15 (suc (suc (suc (suc (suc (suc (suc (suc zero)))))))) l = a8
each_below_16 P a0 a1 a2 a3 a4 a5 a6 a7 a8 a9 a10 a11 a12 a13 a14 a15 (suc (suc (suc (suc (suc (suc (suc (suc (suc zero))))))))) l = a9
each_below_16 P a0 a1 a2 a3 a4 a5 a6 a7 a8 a9 a10 a11 a12 a13 a14 a15 (suc (suc (suc (suc (suc (suc (suc (suc (suc (suc zero)))))))))) l = a10
each_below_16 P a0 a1 a2 a3 a4 a5 a6 a7 a8 a9 a10 a11 a12 a13 a14 a15 (suc (suc (suc (suc (suc (suc (suc (suc (suc (suc (suc zero))))))))))) l = a11
each_below_16 P a0 a1 a2 a3 a4 a5 a6 a7 a8 a9 a10 a11 a12 a13 a14 a15 (suc (suc (suc (suc (suc (suc (suc (suc (suc (suc (suc (suc zero)))))))))))) l = a12
each_below_16 P a0 a1 a2 a3 a4 a5 a6 a7 a8 a9 a10 a11 a12 a13 a14 a15 (suc (suc (suc (suc (suc (suc (suc (suc (suc (suc (suc (suc (suc zero))))))))))))) l = a13
each_below_16 P a0 a1 a2 a3 a4 a5 a6 a7 a8 a9 a10 a11 a12 a13 a14 a15 (suc (suc (suc (suc (suc (suc (suc (suc (suc (suc (suc (suc (suc (suc zero)))))))))))))) l = a14
each_below_16 P a0 a1 a2 a3 a4 a5 a6 a7 a8 a9 a10 a11 a12 a13 a14 a15 (suc (suc (suc (suc (suc (suc (suc (suc (suc (suc (suc (suc (suc (suc (suc zero))))))))))))))) l = a15
each_below_16 P a0 a1 a2 a3 a4 a5 a6 a7 a8 a9 a10 a11 a12 a13 a14 a15 (suc (suc (suc (suc (suc (suc (suc (suc (suc (suc (suc (suc (suc (suc (suc (suc n)))))))))))))))) l = absurd (omega arith)

there : (n : ℕ) → n < 16 → (l : n < 16) → slice_get all_users n ≡ Some (with_proof n l)
there = each_below_16 (λ n. (l : n < 16) → slice_get all_users n ≡ Some (with_proof n l))
    (λ l. ap (λ (u : UserNumber). Some u) (same_user _ _ refl)) (λ l. ap (λ (u : UserNumber). Some u) (same_user _ _ refl))
    (λ l. ap (λ (u : UserNumber). Some u) (same_user _ _ refl)) (λ l. ap (λ (u : UserNumber). Some u) (same_user _ _ refl))
    (λ l. ap (λ (u : UserNumber). Some u) (same_user _ _ refl)) (λ l. ap (λ (u : UserNumber). Some u) (same_user _ _ refl))
    (λ l. ap (λ (u : UserNumber). Some u) (same_user _ _ refl)) (λ l. ap (λ (u : UserNumber). Some u) (same_user _ _ refl))
    (λ l. ap (λ (u : UserNumber). Some u) (same_user _ _ refl)) (λ l. ap (λ (u : UserNumber). Some u) (same_user _ _ refl))
    (λ l. ap (λ (u : UserNumber). Some u) (same_user _ _ refl)) (λ l. ap (λ (u : UserNumber). Some u) (same_user _ _ refl))
    (λ l. ap (λ (u : UserNumber). Some u) (same_user _ _ refl)) (λ l. ap (λ (u : UserNumber). Some u) (same_user _ _ refl))
    (λ l. ap (λ (u : UserNumber). Some u) (same_user _ _ refl)) (λ l. ap (λ (u : UserNumber). Some u) (same_user _ _ refl))

pub user_there : (u : UserNumber) → slice_get all_users u.number ≡ Some u
user_there u = there u.number u.below_16 u.below_16

pub none_there : (n : ℕ) → 16 ≤ n → slice_get all_users n ≡ None
none_there n h = slice_get_past all_users n h

-- sixteen users with the numbers 0 to 15 are all
pub users_are : (a b c d e f g h i j k l m n o p : UserNumber)
    → a.number ≡ 0 → b.number ≡ 1 → c.number ≡ 2 → d.number ≡ 3
    → e.number ≡ 4 → f.number ≡ 5 → g.number ≡ 6 → h.number ≡ 7
    → i.number ≡ 8 → j.number ≡ 9 → k.number ≡ 10 → l.number ≡ 11
    → m.number ≡ 12 → n.number ≡ 13 → o.number ≡ 14 → p.number ≡ 15
    → (a ∷ b ∷ c ∷ d ∷ e ∷ f ∷ g ∷ h ∷ i ∷ j ∷ k ∷ l ∷ m ∷ n ∷ o ∷ p ∷ []) ≡ all_users
users_are a b c d e f g h i j k l m n o p e0 e1 e2 e3 e4 e5 e6 e7 e8 e9 e10 e11 e12 e13 e14 e15 =
    let x0 = same_user a (with_proof 0 (lit< tt)) e0 in
    let x1 = same_user b (with_proof 1 (lit< tt)) e1 in
    let x2 = same_user c (with_proof 2 (lit< tt)) e2 in
    let x3 = same_user d (with_proof 3 (lit< tt)) e3 in
    let x4 = same_user e (with_proof 4 (lit< tt)) e4 in
    let x5 = same_user f (with_proof 5 (lit< tt)) e5 in
    let x6 = same_user g (with_proof 6 (lit< tt)) e6 in
    let x7 = same_user h (with_proof 7 (lit< tt)) e7 in
    let x8 = same_user i (with_proof 8 (lit< tt)) e8 in
    let x9 = same_user j (with_proof 9 (lit< tt)) e9 in
    let x10 = same_user k (with_proof 10 (lit< tt)) e10 in
    let x11 = same_user l (with_proof 11 (lit< tt)) e11 in
    let x12 = same_user m (with_proof 12 (lit< tt)) e12 in
    let x13 = same_user n (with_proof 13 (lit< tt)) e13 in
    let x14 = same_user o (with_proof 14 (lit< tt)) e14 in
    let x15 = same_user p (with_proof 15 (lit< tt)) e15 in
    λ i. x0 i ∷ x1 i ∷ x2 i ∷ x3 i ∷ x4 i ∷ x5 i ∷ x6 i ∷ x7 i ∷ x8 i ∷ x9 i ∷ x10 i ∷ x11 i ∷ x12 i ∷ x13 i ∷ x14 i ∷ x15 i ∷ []

-- the digits are those of the decimal number
one_place : (n : ℕ) → n < 10 → digits_of n ≡ decimal n
one_place n l =
    let few : nat_lt n 10 ≡ true = grind (arith, nat_tests) in
    ap (λ (t : Bool). if t then (48 + n) ∷ [] else 49 ∷ (38 + n) ∷ []) few ∙ sym (decimal_digit n l)

two_places : (n : ℕ) → 10 ≤ n → n < 16 → digits_of n ≡ decimal n
two_places n m l =
    let many : nat_lt n 10 ≡ false = grind (arith, nat_tests) in
    let tens : n / 10 ≡ 1 = omega arith in
    let ones : 48 + n % 10 ≡ 38 + n = omega arith in
    let parts : decimal n ≡ decimal (n / 10) ++ (48 + n % 10) ∷ [] = decimal_step n m (omega arith) in
    ap (λ (t : Bool). if t then (48 + n) ∷ [] else 49 ∷ (38 + n) ∷ []) many
    ∙ sym (parts ∙ (ap₂ (λ (a b : ℕ). decimal a ++ b ∷ []) tens ones ∙ ap (λ (ds : List ℕ). ds ++ (38 + n) ∷ []) (decimal_digit 1 (lit< tt))))

pub written_so : (n : ℕ) → n < 16 → digits_of n ≡ decimal n
written_so n l = go (nat_lt n 10) refl
  where
    go : (t : Bool) → nat_lt n 10 ≡ t → digits_of n ≡ decimal n
    go true e = one_place n (grind (arith, nat_tests))
    go false e = two_places n (grind (arith, nat_tests)) l
