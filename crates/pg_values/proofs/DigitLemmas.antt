-- Decimal digits: a number has so many digits, and digits have one number.
use Rattle.std.proofs.Common.{◌≡◌, ℕ, zero, suc, ◌+◌, ◌-◌, ◌*◌, ◌/◌, ◌%◌, ◌^◌, ◌<◌, ◌≤◌, Bool, true, false, cond, eqb, ltb, ◌&&◌, List, [], ◌∷◌, ◌++◌, length, take, drop, get_or, min, Result, Ok, Err, Some, None, refl, sym, ap, ◌∙◌, inl, inr, arith, length-append, append_assoc}
use Rattle.std.specs.Prelude.{OnOk}
use Rattle.std.specs.Char.{is_ascii_digit, digit_value}
use Rattle.std.specs.Int.{IsInRange}
use Rattle.std.specs.Str.Parse.{digits_value}
use Rattle.std.proofs.lemmas.Bool.{cases_eq, ltb-false, le-ltb}
use Rattle.std.proofs.lemmas.Bool.Decides.{nat_tests}
use Rattle.std.proofs.lemmas.List.{take_all, take_at, drop_at, take-append-drop, length-take}
use Rattle.std.proofs.lemmas.Nat.{div-mul-add, mod-mul-add, div_below, div-add-mod', mod_below, mul-add-lt, pow-add}
use Rattle.std.proofs.lemmas.Int.Digits.{digits_value_more}
use Rattle.std.proofs.lemmas.Str.Parse.{IsNumeralModel, IsDigitsTest, WeighsDigits, numerals_by_weight, digit_at, digits_value_short, digits_value-take-le}
use Rattle.std.proofs.Math.Nat.{pow-suc}
use Rattle.pg_values.specs.Digits.{are_digits, number_of, fixed, shortest}
use Rattle.pg_values.specs.Reading.{fixed_at, digits_front}

pub both : (a b : Bool) → (a && b) ≡ true → (a ≡ true) × (b ≡ true)
both true b e = (refl, e)
both false b e = absurd (cc)

digit_in_range : (c : ℕ) → is_ascii_digit c ≡ true → IsInRange 48 57 c
digit_in_range c e = grind (arith, nat_tests)

pub is_digit : (c : ℕ) → 48 ≤ c → c ≤ 57 → is_ascii_digit c ≡ true
is_digit c l h = grind (arith, nat_tests)

tells : IsDigitsTest (λ ds. are_digits ds ≡ true)
tells = record {
  empty = refl;
  parts = λ c cs e. (digit_in_range c (both _ _ e).0, (both _ _ e).1);
  more = λ c cs r e. rw (is_digit c r.0 r.1) e;
}

weighs : WeighsDigits number_of
weighs = record { empty = refl; more = λ c cs r. refl }

pub own : IsNumeralModel (λ ds. are_digits ds ≡ true) number_of
own = numerals_by_weight (λ ds. are_digits ds ≡ true) tells number_of weighs

pub number_is : (ds : List ℕ) → are_digits ds ≡ true → number_of ds ≡ digits_value 10 ds
number_is ds e = own.same ds (own.to ds e)

pub digit_in : (ds : List ℕ) (i : ℕ) → are_digits ds ≡ true → i < length ds → IsInRange 48 57 (get_or ds i 0)
digit_in ds i e h = digit_at ds i (own.to ds e) h

value_in : (c : ℕ) → IsInRange 48 57 c → digit_value c ≡ c - 48
value_in c r = grind (arith, nat_tests)

pub next_digit : (ds : List ℕ) (i : ℕ) → are_digits ds ≡ true → i < length ds → digits_value 10 (take (i + 1) ds) ≡ digits_value 10 (take i ds) * 10 + (get_or ds i 0 - 48)
next_digit ds i e h = digits_value_more 10 ds i h ∙ ap (λ (k : ℕ). digits_value 10 (take i ds) * 10 + k) (value_in (get_or ds i 0) (digit_in ds i e h))

pub front_below : (ds : List ℕ) (i : ℕ) → are_digits ds ≡ true → digits_value 10 (take i ds) ≤ number_of ds
front_below ds i e = rw (number_is ds e) (digits_value-take-le 10 ds i (omega arith))

pub number_below : (ds : List ℕ) (k : ℕ) → are_digits ds ≡ true → length ds ≤ k → number_of ds < 10 ^ k
number_below ds k e h = digits_value_short own ds k e h

-- one more digit, under the cap
pub capped_step : (ds : List ℕ) (i n cap : ℕ) → are_digits ds ≡ true → i < length ds → n ≡ min (digits_value 10 (take i ds)) cap → min (min (n * 10) cap + (get_or ds i 0 - 48)) cap ≡ min (digits_value 10 (take (i + 1) ds)) cap
capped_step ds i n cap e h was = let next = next_digit ds i e h in omega (arith, next, was)

pub whole_value : (ds : List ℕ) (i : ℕ) → are_digits ds ≡ true → length ds ≤ i → digits_value 10 (take i ds) ≡ number_of ds
whole_value ds i e h = ap (digits_value 10) (take_all i ds h) ∙ sym (number_is ds e)

pub length_front : (k : ℕ) (text : List ℕ) → length (take k text) ≤ k
length_front k text = omega (arith, length-take k text)

pub ten_pos : (k : ℕ) → 0 < 10 ^ k
ten_pos zero = omega arith
ten_pos (suc k) = rw (pow-suc 10 k) (omega (arith, ten_pos k))

-- the first of k + 1 digits is one digit
pub first_digit : (k n : ℕ) → n < 10 ^ suc k → n / 10 ^ k < 10
first_digit k n h = div_below n (10 ^ k) 10 (ten_pos k) (omega (arith, pow-suc 10 k))

pub rest_below : (k n : ℕ) → n % 10 ^ k < 10 ^ k
rest_below k n = mod_below n (10 ^ k) (ten_pos k)

pub length-fixed : (k n : ℕ) → length (fixed k n) ≡ k
length-fixed zero n = refl
length-fixed (suc k) n = ap suc (length-fixed k (n % 10 ^ k))

pub digits-fixed : (k n : ℕ) → n < 10 ^ k → are_digits (fixed k n) ≡ true
digits-fixed zero n h = refl
digits-fixed (suc k) n h =
    let f = first_digit k n h in
    let d : is_ascii_digit (48 + n / 10 ^ k) ≡ true = is_digit (48 + n / 10 ^ k) (omega arith) (omega (arith, f)) in
    rw d (digits-fixed k (n % 10 ^ k) (rest_below k n))

less_48 : (d : ℕ) → 48 + d - 48 ≡ d
less_48 d = omega arith

pub number-fixed : (k n : ℕ) → n < 10 ^ k → number_of (fixed k n) ≡ n
number-fixed zero n h = omega arith
number-fixed (suc k) n h =
    rw (less_48 (n / 10 ^ k), length-fixed k (n % 10 ^ k), number-fixed k (n % 10 ^ k) (rest_below k n)) (div-add-mod' n (10 ^ k))

pub fixed-number : (ds : List ℕ) → are_digits ds ≡ true → fixed (length ds) (number_of ds) ≡ ds
fixed-number [] e = refl
fixed-number (c ∷ cs) e =
    let p = both _ _ e in
    let r = digit_in_range c p.0 in
    let below = number_below cs (length cs) p.1 (omega arith) in
    let q : ((c - 48) * 10 ^ length cs + number_of cs) / 10 ^ length cs ≡ c - 48 = div-mul-add (c - 48) (10 ^ length cs) (number_of cs) below in
    let m : ((c - 48) * 10 ^ length cs + number_of cs) % 10 ^ length cs ≡ number_of cs = mod-mul-add (c - 48) (10 ^ length cs) (number_of cs) below in
    let back : 48 + (c - 48) ≡ c = omega (arith, r.0) in
    rw (q, m, fixed-number cs p.1, back) refl

-- what is spelled with so many digits is read
pub fixed_again : (k n : ℕ) (rest : List ℕ) → n < 10 ^ k → fixed_at k (fixed k n ++ rest) ≡ Some (n, rest)
unfolding fixed_at
fixed_again k n rest h =
    let long : ltb (length (fixed k n ++ rest)) k ≡ false = le-ltb _ _ (omega (arith, length-append (fixed k n) rest, length-fixed k n)) in
    rw (long, take_at (fixed k n) rest k (length-fixed k n), drop_at (fixed k n) rest k (length-fixed k n), digits-fixed k n h, number-fixed k n h) refl

pub some_is : {A : Type 0} (x y : A) → Some x ≡ Some y → x ≡ y
some_is x y e = cc

taken : (k n : ℕ) (text rest : List ℕ) (l : Bool) → ltb (length text) k ≡ l → (d : Bool) → are_digits (take k text) ≡ d → (found : ℕ × List ℕ) → found ≡ (number_of (take k text), drop k text) → cond l None (cond d (Some found) None) ≡ Some (n, rest) → (text ≡ fixed k n ++ rest) × (n < 10 ^ k)
taken k n text rest true lt d is found f e = absurd (cc)
taken k n text rest false lt false is found f e = absurd (cc)
taken k n text rest false lt true is found f e =
    let long = ltb-false (length text) k lt in
    let len : length (take k text) ≡ k = omega (arith, length-take k text) in
    let wanted : ℕ × List ℕ = (n, rest) in
    let s : found ≡ wanted = some_is found wanted e in
    let n_is : number_of (take k text) ≡ n = ap (λ (x : ℕ × List ℕ). x.0) (sym f ∙ s) in
    let rest_is : drop k text ≡ rest = ap (λ (x : ℕ × List ℕ). x.1) (sym f ∙ s) in
    let front : fixed k n ≡ take k text = ap (λ (j : ℕ). fixed j n) (sym len) ∙ ap (fixed (length (take k text))) (sym n_is) ∙ fixed-number (take k text) is in (
      sym (take-append-drop k text) ∙ ap (λ (x : List ℕ). x ++ drop k text) (sym front) ∙ ap (λ (x : List ℕ). fixed k n ++ x) rest_is,
      rw (← n_is) (number_below (take k text) k is (omega arith)),
    )

-- what is read was spelled with so many digits
pub fixed_takes : (k n : ℕ) (text rest : List ℕ) → fixed_at k text ≡ Some (n, rest) → (text ≡ fixed k n ++ rest) × (n < 10 ^ k)
unfolding fixed_at
fixed_takes k n text rest e = taken k n text rest (ltb (length text) k) refl (are_digits (take k text)) refl _ refl e

regroup : (d p u q : ℕ) → (d * p + u) * q ≡ d * (p * q) + u * q
regroup d p u q = omega arith

-- digits up to the last that is not 0 are so many digits of a smaller number
pub record IsShortest (k n : ℕ) : Type 0 where
  pub digits : ℕ
  pub number : ℕ
  pub some : 1 ≤ digits
  pub few : digits ≤ k
  pub fits : number < 10 ^ digits
  pub is : shortest k n ≡ fixed digits number
  pub worth : number * 10 ^ (k - digits) ≡ n

shortest-zero : (k : ℕ) → shortest k 0 ≡ []
shortest-zero zero = refl
shortest-zero (suc k) = refl

not_zero : (n : ℕ) → 0 < n → eqb n 0 ≡ false
not_zero n h = grind (arith, nat_tests)

last_one : (k n : ℕ) → 0 < n → n < 10 ^ suc k → n % 10 ^ k ≡ 0 → IsShortest (suc k) n
last_one k n pos h e =
    let d = n / 10 ^ k in
    let one : d / 1 ≡ d = omega arith in
    let split = div-add-mod' n (10 ^ k) in
    let less : suc k - 1 ≡ k = omega arith in
    record {
      digits = 1;
      number = d;
      some = omega arith;
      few = omega arith;
      fits = first_digit k n h;
      is = rw (not_zero n pos, e, shortest-zero k, one) refl;
      worth = rw less (omega (arith, split));
    }

one_more : (k n : ℕ) → 0 < n → n < 10 ^ suc k → IsShortest k (n % 10 ^ k) → IsShortest (suc k) n
one_more k n pos h s =
    let d = n / 10 ^ k in
    let j = s.digits in
    let u = s.number in
    let q : (d * 10 ^ j + u) / 10 ^ j ≡ d = div-mul-add d (10 ^ j) u s.fits in
    let m : (d * 10 ^ j + u) % 10 ^ j ≡ u = mod-mul-add d (10 ^ j) u s.fits in
    let below : d * 10 ^ j + u < 10 ^ j * 10 = mul-add-lt d (10 ^ j) u 10 (first_digit k n h) s.fits in
    let less : suc k - suc j ≡ k - j = omega arith in
    let few : j + (k - j) ≡ k = omega (arith, s.few) in
    let power : 10 ^ j * 10 ^ (k - j) ≡ 10 ^ k = sym (pow-add 10 j (k - j)) ∙ ap (λ (i : ℕ). 10 ^ i) few in
    let whole : (d * 10 ^ j + u) * 10 ^ (k - j) ≡ n =
    regroup d (10 ^ j) u (10 ^ (k - j)) ∙ ap (λ (i : ℕ). d * i + u * 10 ^ (k - j)) power ∙ ap (λ (i : ℕ). d * 10 ^ k + i) s.worth ∙ div-add-mod' n (10 ^ k) in
    record {
      digits = suc j;
      number = d * 10 ^ j + u;
      some = omega arith;
      few = omega (arith, s.few);
      fits = rw (pow-suc 10 j) below;
      is = rw (not_zero n pos, s.is, q, m) refl;
      worth = rw less whole;
    }

pub is_shortest : (k n : ℕ) → 0 < n → n < 10 ^ k → IsShortest k n
is_shortest zero n pos h = absurd (omega arith)
is_shortest (suc k) n pos h = elim (cases_eq (n % 10 ^ k) 0) [
  | inl e ↦ last_one k n pos h e
  | inr ne ↦ one_more k n pos h (is_shortest k (n % 10 ^ k) (omega arith) (rest_below k n))
]

front_more : (b : ℕ) (rest : List ℕ) (t : Bool) → is_ascii_digit b ≡ t → are_digits (digits_front rest) ≡ true → are_digits (cond t (b ∷ digits_front rest) []) ≡ true
front_more b rest true is e = rw is e
front_more b rest false is e = refl

-- One digit is put, and then the others.

pub put_one : (k n p : ℕ) → 0 < k → n < 10 ^ k → p ≡ 10 ^ (k - 1) → (0 < p) × (n / p < 10) × (n % p < 10 ^ (k - 1))
put_one zero n p pos h e = absurd (omega arith)
put_one (suc k) n p pos h e =
    let less : suc k - 1 ≡ k = omega arith in
    let same : p ≡ 10 ^ k = e ∙ ap (λ (j : ℕ). 10 ^ j) less in
    rw (less, same) (ten_pos k, first_digit k n h, rest_below k n)

pub fixed_step : (k n p : ℕ) → 0 < k → p ≡ 10 ^ (k - 1) → (48 + n / p) ∷ fixed (k - 1) (n % p) ≡ fixed k n
fixed_step zero n p pos e = absurd (omega arith)
fixed_step (suc k) n p pos e =
    let less : suc k - 1 ≡ k = omega arith in
    let same : p ≡ 10 ^ k = e ∙ ap (λ (j : ℕ). 10 ^ j) less in
    rw (less, same) refl

pub shortest_step : (k n p : ℕ) → 0 < k → 0 < n → p ≡ 10 ^ (k - 1) → (48 + n / p) ∷ shortest (k - 1) (n % p) ≡ shortest k n
shortest_step zero n p pos some e = absurd (omega arith)
shortest_step (suc k) n p pos some e =
    let less : suc k - 1 ≡ k = omega arith in
    let same : p ≡ 10 ^ k = e ∙ ap (λ (j : ℕ). 10 ^ j) less in
    rw (less, same, not_zero n some) refl

pub put_then : {E : Type 0} (r : Result (Unit {0}) E) (old mid new rest whole : List ℕ) (first : ℕ) → mid ≡ old ++ (first ∷ []) → OnOk r (new ≡ mid ++ rest) → first ∷ rest ≡ whole → OnOk r (new ≡ old ++ whole)
put_then (Ok u) old mid new rest whole first m n w =
    n ∙ ap (λ (x : List ℕ). x ++ rest) m ∙ append_assoc old (first ∷ []) rest ∙ ap (λ (x : List ℕ). old ++ x) w
put_then (Err e) old mid new rest whole first m n w = tt

pub are_digits_front : (text : List ℕ) → are_digits (digits_front text) ≡ true
are_digits_front [] = refl
are_digits_front (b ∷ rest) = front_more b rest (is_ascii_digit b) refl (are_digits_front rest)
