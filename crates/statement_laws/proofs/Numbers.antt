-- Numbers in the range of an int4 or of an int8: how each is spelled, and that what is calculated stays in the range.
use Rattle.std.proofs.Common.{◌≡◌, ◌∙◌, ℕ, suc, ◌+◌, ◌-◌, ◌<◌, ◌≤◌, ℤ, pos, negsuc, neg_ℤ, ◌+ℤ◌, ◌-ℤ◌, refl, ap, sym, arith}
use Rattle.std.specs.Prelude.{◌&&◌, ◌||◌, ◌==◌, nat_lt, Bool as Truth, true, false, Ok, Err, if◌then◌else◌}
use Rattle.std.specs.Int.Signed.{le_z}
use Rattle.std.proofs.lemmas.Bool.{eqb-true, leb-true, leb-false, le-leb, lt-leb, ltb-true, ltb-false}
use Rattle.jiff_core.proofs.SignedLemmas.{signed_arith}
use Rattle.pg_values.specs.declared.col_type.ColType.TheVariants as kind
use Rattle.pg_values.specs.declared.value.Value.TheVariants as value
use Rattle.sql_tree.specs.declared.expr.Expr.TheVariants as expr
use Rattle.typed_sql.specs.Own.{is_least_int4}
use Rattle.typed_sql.specs.Places.{number_kind}
use Rattle.sql_values.specs.Arithmetic.{as_int4, as_int8, is_between}
use Rattle.sql_values.specs.Outcome.{out_of_range}
use Rattle.checked_print.specs.Spelled.{fits_int4, is_plain, number}
use Rattle.checked_print.specs.Ranges.{fits_int8}

pub both_of : (a b : Truth) → (a && b) ≡ true → (a ≡ true) × (b ≡ true)
both_of true b is = (refl, is)
both_of false b is = absurd (let f : false ≡ true = is in cc)

pub both_true : (a b : Truth) → a ≡ true → b ≡ true → (a && b) ≡ true
both_true true b is other = other
both_true false b is other = absurd (let f : false ≡ true = is in cc)

pub strictly : (k m : ℕ) → k ≤ m → ¬ (k ≡ m) → k < m
strictly k m most other = by_test (nat_lt k m) refl
  where
    by_test : (b : Truth) → nat_lt k m ≡ b → k < m
    by_test true is = ltb-true k m is
    by_test false is = let over = ltb-false k m is in absurd (other (omega (arith, most, over)))

-- ---- the ranges by cases

pub small : (k : ℕ) → fits_int4 (pos k) ≡ true → k ≤ 2147483647
small k is = leb-true k 2147483647 (both_of (le_z (neg_ℤ (pos 2147483648)) (pos k)) (le_z (pos k) (pos 2147483647)) is).1

pub small_below : (k : ℕ) → fits_int4 (negsuc k) ≡ true → k ≤ 2147483647
small_below k is = leb-true k 2147483647 (both_of (le_z (neg_ℤ (pos 2147483648)) (negsuc k)) (le_z (negsuc k) (pos 2147483647)) is).0

pub great : (k : ℕ) → fits_int4 (pos k) ≡ false → 2147483648 ≤ k
great k is = over (le_z (pos k) (pos 2147483647)) refl
  where
    over : (b : Truth) → le_z (pos k) (pos 2147483647) ≡ b → 2147483648 ≤ k
    over true fits = absurd (let f : true ≡ false = sym (both_true (le_z (neg_ℤ (pos 2147483648)) (pos k)) (le_z (pos k) (pos 2147483647)) refl fits) ∙ is in cc)
    over false fits = let above : 2147483647 < k = leb-false k 2147483647 fits in omega (arith, above)

pub great_below : (k : ℕ) → fits_int4 (negsuc k) ≡ false → 2147483648 ≤ k
great_below k is = over (le_z (neg_ℤ (pos 2147483648)) (negsuc k)) refl
  where
    over : (b : Truth) → le_z (neg_ℤ (pos 2147483648)) (negsuc k) ≡ b → 2147483648 ≤ k
    over true fits = absurd (let f : true ≡ false = sym (both_true (le_z (neg_ℤ (pos 2147483648)) (negsuc k)) (le_z (negsuc k) (pos 2147483647)) fits refl) ∙ is in cc)
    over false fits = let above : 2147483647 < k = leb-false k 2147483647 fits in omega (arith, above)

pub wide : (k : ℕ) → fits_int8 (pos k) ≡ true → k ≤ 9223372036854775807
wide k is = leb-true k 9223372036854775807 (both_of (le_z (neg_ℤ (pos 9223372036854775808)) (pos k)) (le_z (pos k) (pos 9223372036854775807)) is).1

pub wide_below : (k : ℕ) → fits_int8 (negsuc k) ≡ true → k ≤ 9223372036854775807
wide_below k is = leb-true k 9223372036854775807 (both_of (le_z (neg_ℤ (pos 9223372036854775808)) (negsuc k)) (le_z (negsuc k) (pos 9223372036854775807)) is).0

-- ---- how it is spelled

plain_if : (b : Truth) (n : ℤ) → is_plain n ≡ b → number n ≡ (if b then expr.Int n else expr.Minus (expr.Int (neg_ℤ n)))
plain_if b n is = ap (λ (c : Truth). if c then expr.Int n else expr.Minus (expr.Int (neg_ℤ n))) is

pub number_pos : (k : ℕ) → number (pos k) ≡ expr.Int (pos k)
number_pos k = plain_if true (pos k) (ap (λ (c : Truth). c || le_z (pos k) (neg_ℤ (pos 9223372036854775808))) (le-leb 0 k (omega arith)))

pub number_negative : (k : ℕ) → k < 9223372036854775807 → number (negsuc k) ≡ expr.Minus (expr.Int (pos (suc k)))
number_negative k below = plain_if false (negsuc k) (lt-leb 9223372036854775807 k below)

pub number_least : (k : ℕ) → 9223372036854775807 ≤ k → number (negsuc k) ≡ expr.Int (negsuc k)
number_least k above = plain_if true (negsuc k) (le-leb 9223372036854775807 k above)

-- ---- its type

kind_if : (b : Truth) (n : ℤ) → (le_z (pos 0) n && le_z n (pos 2147483647)) ≡ b → number_kind n ≡ (if b then kind.Int4 else kind.Int8)
kind_if b n is = ap (λ (c : Truth). if c then kind.Int4 else kind.Int8) is

pub kind_int4 : (k : ℕ) → k ≤ 2147483647 → number_kind (pos k) ≡ kind.Int4
kind_int4 k few = kind_if true (pos k) (both_true (le_z (pos 0) (pos k)) (le_z (pos k) (pos 2147483647)) (le-leb 0 k (omega arith)) (le-leb k 2147483647 few))

pub kind_int8 : (k : ℕ) → 2147483648 ≤ k → number_kind (pos k) ≡ kind.Int8
kind_int8 k many = kind_if false (pos k)
    (ap (λ (b : Truth). b && le_z (pos k) (pos 2147483647)) (le-leb 0 k (omega arith)) ∙ lt-leb k 2147483647 (omega (arith, many)))

pub kind_negative : (k : ℕ) → number_kind (negsuc k) ≡ kind.Int8
kind_negative k = refl

-- ---- 2147483648

pub least_not : (k : ℕ) → ¬ (k ≡ 2147483648) → is_least_int4 (pos k) ≡ false
least_not k other = by_test (k == 2147483648) refl
  where
    by_test : (b : Truth) → (k == 2147483648) ≡ b → (k == 2147483648) ≡ false
    by_test true is = absurd (other (eqb-true k 2147483648 is))
    by_test false is = is

-- ---- what is calculated

sized_4 : (b : Truth) (n : ℤ) → is_between (neg_ℤ (pos 2147483648)) (pos 2147483647) n ≡ b → b ≡ true → as_int4 n ≡ Ok (value.Int4 n)
sized_4 b n is holds = ap (λ (c : Truth). if c then Ok (value.Int4 n) else Err out_of_range) (is ∙ holds)

pub int4_is : (n : ℤ) → fits_int4 n ≡ true → as_int4 n ≡ Ok (value.Int4 n)
int4_is n fits = sized_4 true n fits refl

pub int8_is : (n : ℤ) → fits_int8 n ≡ true → as_int8 n ≡ Ok (value.Int8 n)
int8_is n fits = ap (λ (c : Truth). if c then Ok (value.Int8 n) else Err out_of_range) fits

pub fits_negative : (k : ℕ) → k ≤ 9223372036854775807 → fits_int8 (negsuc k) ≡ true
fits_negative k few = both_true (le_z (neg_ℤ (pos 9223372036854775808)) (negsuc k)) true (le-leb k 9223372036854775807 few) refl

pub fits_positive : (k : ℕ) → k ≤ 9223372036854775807 → fits_int8 (pos k) ≡ true
fits_positive k few = le-leb k 9223372036854775807 few

-- a number of int4 and 2147483648 are an int8
sum_natural : (n : ℤ) → fits_int4 n ≡ true → (k : ℕ) × (n +ℤ pos 2147483648 ≡ pos k) × (k ≤ 4294967295)
sum_natural (pos k) fits = let few = small k fits in (k + 2147483648, omega (arith, signed_arith), omega (arith, few))
sum_natural (negsuc k) fits = let few = small_below k fits in (2147483647 - k, omega (arith, signed_arith, few), omega arith)

pub widened_fits : (n : ℤ) → fits_int4 n ≡ true → fits_int8 (n +ℤ pos 2147483648) ≡ true
widened_fits n fits =
    let sum = sum_natural n fits in
    ap fits_int8 sum.1 ∙ fits_positive sum.0 (omega (arith, sum.2))

pub back_again : (n : ℤ) → (n +ℤ pos 2147483648) -ℤ pos 2147483648 ≡ n
back_again n = omega (arith, signed_arith)

pub int4_fits : (n : ℤ) → fits_int4 n ≡ true → fits_int8 n ≡ true
int4_fits (pos k) fits = fits_positive k (omega (arith, small k fits))
int4_fits (negsuc k) fits = fits_negative k (omega (arith, small_below k fits))
