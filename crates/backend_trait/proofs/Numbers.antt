-- What arithmetic gives has the type that the rules give it.
use Rattle.std.proofs.Common.{◌≡◌, ℕ, ℤ, List, [], ◌∷◌, map, refl, sym, subst}
use Rattle.std.specs.Prelude.{Bool as Truth, true, false, fold, if◌then◌else◌, Result, Ok, Err, pos, neg_ℤ}
use Rattle.pg_values.specs.declared.col_type.ColType.{ColType}
use Rattle.pg_values.specs.declared.col_type.ColType.TheVariants.{Bool, Int4, Int8, Text, Moment}
use Rattle.pg_values.specs.declared.value.Value.{Value}
use Rattle.pg_values.specs.declared.value.Value.TheVariants as value
use Rattle.typed_sql.specs.Places.{is_whole, sum_kind}
use Rattle.checked_sql.specs.Sound.{is_value}
use Rattle.sql_values.specs.Outcome.{Outcome, behind, of_both, chained, out_of_range}
use Rattle.sql_values.specs.Arithmetic.{as_int4, as_int8, calculated, is_between, negative, sized}
use Rattle.backend_trait.specs.Typed.{IsOutcomeOf}
use Rattle.backend_trait.proofs.Truths.{Each}

-- a number of a type, or Null
pub data WholeAt (k : ColType) (a : Value) : Type 0 where
  no_number : a ≡ value.Null → WholeAt k a
  narrow : (n : ℤ) → k ≡ Int4 → a ≡ value.Int4 n → WholeAt k a
  wide : (n : ℤ) → k ≡ Int8 → a ≡ value.Int8 n → WholeAt k a

pub whole_at : (k : ColType) (a : Value) → is_whole k ≡ true → is_value k a ≡ true → WholeAt k a
whole_at Bool a w e = absurd (let f : false ≡ true = w in cc)
whole_at Text a w e = absurd (let f : false ≡ true = w in cc)
whole_at Moment a w e = absurd (let f : false ≡ true = w in cc)
whole_at Int4 value.Null w e = no_number refl
whole_at Int4 (value.Int4 n) w e = narrow n refl refl
whole_at Int4 a w e = absurd (let f : false ≡ true = e in cc)
whole_at Int8 value.Null w e = no_number refl
whole_at Int8 (value.Int8 n) w e = wide n refl refl
whole_at Int8 a w e = absurd (let f : false ≡ true = e in cc)

if_narrow : (b : Truth) (n : ℤ) → IsOutcomeOf Int4 (if b then Ok (value.Int4 n) else Err out_of_range)
if_narrow true n = refl
if_narrow false n = tt

if_wide : (b : Truth) (n : ℤ) → IsOutcomeOf Int8 (if b then Ok (value.Int8 n) else Err out_of_range)
if_wide true n = refl
if_wide false n = tt

pub narrow_typed : (n : ℤ) → IsOutcomeOf Int4 (as_int4 n)
narrow_typed n = if_narrow (is_between (neg_ℤ (pos 2147483648)) (pos 2147483647) n) n

wide_typed : (n : ℤ) → IsOutcomeOf Int8 (as_int8 n)
wide_typed n = if_wide (is_between (neg_ℤ (pos 9223372036854775808)) (pos 9223372036854775807) n) n

sized_narrow : (r : Result ℤ (List ℕ)) → IsOutcomeOf Int4 (sized true r)
sized_narrow (Ok n) = narrow_typed n
sized_narrow (Err code) = tt

sized_wide : (r : Result ℤ (List ℕ)) → IsOutcomeOf Int8 (sized false r)
sized_wide (Ok n) = wide_typed n
sized_wide (Err code) = tt

module _ (how : ℤ → ℤ → Result ℤ (List ℕ)) where
  abbrev Calculates : ColType → ColType → Value → Value → Type 0
  Calculates k l a b = IsOutcomeOf (sum_kind k l) (calculated how a b)

  of_kinds : (k l m n : ColType) (a b : Value) → k ≡ m → l ≡ n → Calculates m n a b → Calculates k l a b
  of_kinds k l m n a b p q is = subst (λ (x : ColType). Calculates x l a b) (sym p) (subst (λ (y : ColType). Calculates m y a b) (sym q) is)

  of_values : (k l : ColType) (a b c d : Value) → a ≡ c → b ≡ d → Calculates k l c d → Calculates k l a b
  of_values k l a b c d p q is = subst (λ (x : Value). Calculates k l x b) (sym p) (subst (λ (y : Value). Calculates k l c y) (sym q) is)

  pub calculated_typed : (k l : ColType) (a b : Value) → WholeAt k a → WholeAt l b → Calculates k l a b
  calculated_typed k l a b (no_number p) other = of_values k l a b value.Null b p refl refl
  calculated_typed k l a b (narrow n kp p) (no_number q) = of_values k l a b (value.Int4 n) value.Null p q refl
  calculated_typed k l a b (wide n kp p) (no_number q) = of_values k l a b (value.Int8 n) value.Null p q refl
  calculated_typed k l a b (narrow n kp p) (narrow m lp q) =
      of_kinds k l Int4 Int4 a b kp lp (of_values Int4 Int4 a b (value.Int4 n) (value.Int4 m) p q (sized_narrow (how n m)))
  calculated_typed k l a b (narrow n kp p) (wide m lp q) =
      of_kinds k l Int4 Int8 a b kp lp (of_values Int4 Int8 a b (value.Int4 n) (value.Int8 m) p q (sized_wide (how n m)))
  calculated_typed k l a b (wide n kp p) (narrow m lp q) =
      of_kinds k l Int8 Int4 a b kp lp (of_values Int8 Int4 a b (value.Int8 n) (value.Int4 m) p q (sized_wide (how n m)))
  calculated_typed k l a b (wide n kp p) (wide m lp q) =
      of_kinds k l Int8 Int8 a b kp lp (of_values Int8 Int8 a b (value.Int8 n) (value.Int8 m) p q (sized_wide (how n m)))

  both_typed : (k l : ColType) (o p : Outcome) → is_whole k ≡ true → is_whole l ≡ true → IsOutcomeOf k o → IsOutcomeOf l p
      → IsOutcomeOf (sum_kind k l) (of_both (calculated how) o p)
  both_typed k l (Err code) p w x os ps = tt
  both_typed k l (Ok a) (Err code) w x os ps = tt
  both_typed k l (Ok a) (Ok b) w x os ps = calculated_typed k l a b (whole_at k a w os) (whole_at l b x ps)

sum_whole : (k l : ColType) → is_whole (sum_kind k l) ≡ true
sum_whole Int4 Int4 = refl
sum_whole k l = refl

-- a chain from the left, of parts of whole types
module _ {Q : Type 0} (how : Q → ℤ → ℤ → Result ℤ (List ℕ)) (outcome : Q → Outcome) (kind_of : Q → ColType) where
  abbrev pub IsWholePart : Q → Type 0
  IsWholePart q = (is_whole (kind_of q) ≡ true) × IsOutcomeOf (kind_of q) (outcome q)

  pub chain_typed : (qs : List Q) (k : ColType) (o : Outcome) → is_whole k ≡ true → IsOutcomeOf k o → Each IsWholePart qs
      → IsOutcomeOf (fold sum_kind k (map kind_of qs)) (chained outcome (λ q. calculated (how q)) o qs)
  chain_typed [] k o w is each = is
  chain_typed (q ∷ qs) k o w is each =
      chain_typed qs (sum_kind k (kind_of q)) (of_both (calculated (how q)) o (outcome q)) (sum_whole k (kind_of q))
      (both_typed (how q) k (kind_of q) o (outcome q) w each.0.0 is each.0.1) each.1

negative_at : (k : ColType) (a : Value) → WholeAt k a → IsOutcomeOf k (negative a)
negative_at k a (no_number p) = subst (λ (x : Value). IsOutcomeOf k (negative x)) (sym p) refl
negative_at k a (narrow n kp p) =
    subst (λ (x : ColType). IsOutcomeOf x (negative a)) (sym kp) (subst (λ (x : Value). IsOutcomeOf Int4 (negative x)) (sym p) (narrow_typed (neg_ℤ n)))
negative_at k a (wide n kp p) =
    subst (λ (x : ColType). IsOutcomeOf x (negative a)) (sym kp) (subst (λ (x : Value). IsOutcomeOf Int8 (negative x)) (sym p) (wide_typed (neg_ℤ n)))

pub negative_typed : (k : ColType) (o : Outcome) → is_whole k ≡ true → IsOutcomeOf k o → IsOutcomeOf k (behind o negative)
negative_typed k (Err code) w is = tt
negative_typed k (Ok a) w is = negative_at k a (whole_at k a w is)
