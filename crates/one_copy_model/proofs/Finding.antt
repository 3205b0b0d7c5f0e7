-- The first backend that passes a test; none is numbered beyond the eight.
use Rattle.std.proofs.Common.{◌≡◌, ℕ, zero, suc, ◌/◌, ◌%◌, ◌^◌, ◌*◌, ◌<◌, ◌≤◌, Bool, true, false, ◌==◌, List, [], ◌∷◌, refl, sym, ap, ◌∙◌, subst, arith, inl, inr, pow_mono, div-lt_iff_lt-mul, le_trans, lt_of_lt_of_le}
use Rattle.std.specs.Prelude.{◌⊎◌, Some, None, find, cond}
use Rattle.std.proofs.lemmas.Bool.Decides.{leb_tells}
use Rattle.pool_base.specs.Sets.{has}
use Rattle.pool_base.specs.declared.backend_id.BackendId.{BackendId}
use Rattle.session_machine.specs.Answers.{all_backends, lowest, is_attached}
use Rattle.session_machine.proofs.Backends.{same_backend, found_passes}

abbrev AreNone : (BackendId → Bool) → List BackendId → Type 0
AreNone p [] = Unit {0}
AreNone p (x ∷ xs) = (p x ≡ false) × AreNone p xs

none_at : (p : BackendId → Bool) (x : BackendId) (xs : List BackendId) (rest : find p xs ≡ None → AreNone p xs) (v : Bool) → p x ≡ v → cond v (Some x) (find p xs) ≡ None → (p x ≡ false) × AreNone p xs
none_at p x xs rest true is e = absurd (let z : Some x ≡ None = e in cc)
none_at p x xs rest false is e = (is, rest e)

are_none : (p : BackendId → Bool) (xs : List BackendId) → find p xs ≡ None → AreNone p xs
are_none p [] e = tt
are_none p (x ∷ xs) e = none_at p x xs (are_none p xs) (p x) refl e

abbrev IsAmong : BackendId → List BackendId → Type 0
IsAmong c [] = ⊥
IsAmong c (x ∷ xs) = (x ≡ c) ⊎ IsAmong c xs

none_among : (p : BackendId → Bool) (xs : List BackendId) (c : BackendId) → AreNone p xs → IsAmong c xs → p c ≡ false
none_among p [] c none among = absurd among
none_among p (x ∷ xs) c none (inl is) = sym (ap p is) ∙ none.0
none_among p (x ∷ xs) c none (inr rest) = none_among p xs c none.1 rest

-- what holds of each of the eight holds of all below eight
each_below_8 : (P : ℕ → Type 0) → P 0 → P 1 → P 2 → P 3 → P 4 → P 5 → P 6 → P 7 → (n : ℕ) → n < 8 → P n
each_below_8 P a b c d e f g h zero l = a
each_below_8 P a b c d e f g h (suc zero) l = b
each_below_8 P a b c d e f g h (suc (suc zero)) l = c
each_below_8 P a b c d e f g h (suc (suc (suc zero))) l = d
each_below_8 P a b c d e f g h (suc (suc (suc (suc zero)))) l = e
each_below_8 P a b c d e f g h (suc (suc (suc (suc (suc zero))))) l = f
each_below_8 P a b c d e f g h (suc (suc (suc (suc (suc (suc zero)))))) l = g
each_below_8 P a b c d e f g h (suc (suc (suc (suc (suc (suc (suc zero))))))) l = h
each_below_8 P a b c d e f g h (suc (suc (suc (suc (suc (suc (suc (suc n)))))))) l = absurd (omega (arith, l))

at_number : (n : ℕ) → n < 8 → (c : BackendId) → c.number ≡ n → IsAmong c all_backends
at_number = each_below_8 (λ n. (c : BackendId) → c.number ≡ n → IsAmong c all_backends)
    (λ c e. inl (same_backend _ c (sym e)))
    (λ c e. inr (inl (same_backend _ c (sym e))))
    (λ c e. inr (inr (inl (same_backend _ c (sym e)))))
    (λ c e. inr (inr (inr (inl (same_backend _ c (sym e))))))
    (λ c e. inr (inr (inr (inr (inl (same_backend _ c (sym e)))))))
    (λ c e. inr (inr (inr (inr (inr (inl (same_backend _ c (sym e))))))))
    (λ c e. inr (inr (inr (inr (inr (inr (inl (same_backend _ c (sym e)))))))))
    (λ c e. inr (inr (inr (inr (inr (inr (inr (inl (same_backend _ c (sym e))))))))))

each_is : (c : BackendId) → IsAmong c all_backends
each_is c = at_number c.number c.below_8 c refl

pub none_found : (p : BackendId → Bool) → find p all_backends ≡ None → (c : BackendId) → p c ≡ false
none_found p e c = none_among p all_backends c (are_none p all_backends e) (each_is c)

-- the first that is found is the lowest
abbrev RisesFrom : ℕ → List BackendId → Type 0
RisesFrom low [] = Unit {0}
RisesFrom low (x ∷ xs) = (low ≤ x.number) × RisesFrom x.number xs

risen : (low : ℕ) (xs : List BackendId) (c : BackendId) → RisesFrom low xs → IsAmong c xs → low ≤ c.number
risen low [] c r among = absurd among
risen low (x ∷ xs) c r (inl is) = subst (λ (y : BackendId). low ≤ y.number) is r.0
risen low (x ∷ xs) c r (inr rest) = le_trans r.0 (risen x.number xs c r.1 rest)

same_found : (x b : BackendId) → Some x ≡ Some b → x ≡ b
same_found x b e = cc

least_at : (p : BackendId → Bool) (x : BackendId) (xs : List BackendId) (b c : BackendId) (above : IsAmong c xs → x.number ≤ c.number)
    (rest : find p xs ≡ Some b → IsAmong c xs → b.number ≤ c.number) (v : Bool) → p x ≡ v → cond v (Some x) (find p xs) ≡ Some b → IsAmong c (x ∷ xs) → p c ≡ true → b.number ≤ c.number
least_at p x xs b c above rest true is e (inl same) passes =
    let one : x.number ≡ b.number = ap (λ (y : BackendId). y.number) (same_found x b e) in
    let two : x.number ≡ c.number = ap (λ (y : BackendId). y.number) same in
    let z : b.number ≤ c.number = omega (arith, one, two) in z
least_at p x xs b c above rest true is e (inr among) passes =
    let one : x.number ≡ b.number = ap (λ (y : BackendId). y.number) (same_found x b e) in
    let two : x.number ≤ c.number = above among in
    let z : b.number ≤ c.number = omega (arith, one, two) in z
least_at p x xs b c above rest false is e (inl same) passes = absurd (let z : true ≡ false = sym passes ∙ sym (ap p same) ∙ is in cc)
least_at p x xs b c above rest false is e (inr among) passes = rest e among

least_of : (p : BackendId → Bool) (low : ℕ) (xs : List BackendId) (b c : BackendId) → RisesFrom low xs → find p xs ≡ Some b → IsAmong c xs → p c ≡ true → b.number ≤ c.number
least_of p low [] b c r e among passes = absurd among
least_of p low (x ∷ xs) b c r e among passes =
    least_at p x xs b c (risen x.number xs c r.1) (λ f in_it. least_of p x.number xs b c r.1 f in_it passes) (p x) refl e among passes

all_rise : RisesFrom 0 all_backends
all_rise = (omega arith, (omega arith, (omega arith, (omega arith, (omega arith, (omega arith, (omega arith, (omega arith, tt))))))))

pub least_found : (p : BackendId → Bool) (b c : BackendId) → find p all_backends ≡ Some b → p c ≡ true → b.number ≤ c.number
least_found p b c e passes = least_of p 0 all_backends b c all_rise e (each_is c) passes

pub is_found : (p : BackendId → Bool) (b : BackendId) → find p all_backends ≡ Some b → p b ≡ true
is_found p b e = found_passes p all_backends b e

-- a member of a set of less than 256 is one of the eight
beyond : (bits b : ℕ) → bits < 2 ^ b → has bits b ≡ false
beyond bits b less = let z : bits / 2 ^ b ≡ 0 = zero_of (bits / 2 ^ b) (div_less bits (2 ^ b) less) in ap (λ q. q % 2 == 1) z
  where
    zero_of : (n : ℕ) → n < 1 → n ≡ 0
    zero_of n l = omega (arith, l)

    div_less : (n k : ℕ) → n < k → n / k < 1
    div_less n k l = (div-lt_iff_lt-mul (let z : zero < k = omega (arith, l) in z)).1 (let z : n < 1 * k = omega (arith, l) in z)

pub one_of_eight : (bits b : ℕ) → bits < 256 → has bits b ≡ true → b < 8
one_of_eight bits b few is = elim (leb_tells 8 b) [
  | inl q ↦ absurd (let n : false ≡ true = sym (beyond bits b (lt_of_lt_of_le few (pow_mono q.1))) ∙ is in cc)
  | inr q ↦ (let z : b < 8 = omega (arith, q.1) in z)
]

pub nobody_attached : (bits : ℕ) → bits < 256 → lowest bits ≡ None → (b : ℕ) → has bits b ≡ true → ⊥
nobody_attached bits few none b is =
    let below : b < 8 = one_of_eight bits b few is in
    let no : has bits b ≡ false = none_found (is_attached bits) none (record { number = b; below_8 = below }) in
    let n : false ≡ true = sym no ∙ is in cc
