-- What stands behind DEFAULT is of the column's type and in its range.
use Rattle.std.proofs.Common.{◌≡◌, ◌≤◌, ℕ, ℤ, pos, negsuc, neg_ℤ, Bool as Truth, true, false, List, refl, sym, subst, if◌then◌else◌, Some, None, arith}
use Rattle.std.specs.Prelude.{FitsSigned}
use Rattle.std.specs.Int.{w32, w64}
use Rattle.std.specs.Int.Signed.{le_z}
use Rattle.std.proofs.Math.Facts.{leb_yes}
use Rattle.std.proofs.lemmas.Bool.{leb-true}
use Rattle.sql_tokens.specs.declared.token.Token.{Token as AnyToken}
use Rattle.pg_values.specs.declared.col_type.ColType.{ColType}
use Rattle.pg_values.specs.declared.col_type.ColType.TheVariants as kind
use Rattle.pg_values.specs.declared.value.Value.{Value}
use Rattle.pg_values.specs.declared.value.Value.TheVariants as value
use Rattle.pg_values.specs.Range.{IsMoment}
use Rattle.schema.specs.declared.catalogue.Fill.{Fill}
use Rattle.schema.specs.declared.catalogue.Fill.TheVariants as fill
use Rattle.schema.specs.Values.{is_within, number_value, truth_value, StringValue}
use Rattle.schema.specs.Grammar.{FillOf, number, negative, least, string, truth, falsehood, null, now, current}
use Rattle.schema.proofs.Completing.{nothing, same, both_of}
use Rattle.schema.specs.Allowed.{HasNoZero, IsConstantOf}
use Rattle.sql_profile.proofs.SchemaNames.{AreClean}

-- what a DEFAULT of this type can be
abbrev pub IsFillOfKind : ColType → Fill → Type 0
IsFillOfKind of fill.Nothing = ⊥
IsFillOfKind of fill.Serial = ⊥
IsFillOfKind of fill.Now = of ≡ kind.Moment
IsFillOfKind of (fill.Constant v) = IsConstantOf of v

-- ---- numbers

within_4 : (n : ℤ) → is_within (neg_ℤ (pos 2147483648)) (pos 2147483647) n ≡ true → FitsSigned w32 n
within_4 (pos n) e =
    let h = leb-true n 2147483647 (both_of (le_z (neg_ℤ (pos 2147483648)) (pos n)) (le_z (pos n) (pos 2147483647)) e).1 in
    record { sfits = omega (arith, h) }
within_4 (negsuc n) e =
    let h = leb-true n 2147483647 (both_of (le_z (neg_ℤ (pos 2147483648)) (negsuc n)) (le_z (negsuc n) (pos 2147483647)) e).0 in
    record { sfits = omega (arith, h) }

within_8 : (n : ℤ) → is_within (neg_ℤ (pos 9223372036854775808)) (pos 9223372036854775807) n ≡ true → FitsSigned w64 n
within_8 (pos n) e =
    let h = leb-true n 9223372036854775807 (both_of (le_z (neg_ℤ (pos 9223372036854775808)) (pos n)) (le_z (pos n) (pos 9223372036854775807)) e).1 in
    record { sfits = omega (arith, h) }
within_8 (negsuc n) e =
    let h = leb-true n 9223372036854775807 (both_of (le_z (neg_ℤ (pos 9223372036854775808)) (negsuc n)) (le_z (negsuc n) (pos 9223372036854775807)) e).0 in
    record { sfits = omega (arith, h) }

moment_fits : (n : ℤ) → IsMoment n → FitsSigned w64 n
moment_fits (pos n) (low, high) = let h : n ≤ 252455615999999999 = leb_yes high.le in record { sfits = omega (arith, h) }
moment_fits (negsuc n) (low, high) = let h : n ≤ 63082281599999999 = leb_yes low.le in record { sfits = omega (arith, h) }

where_true : (P : Value → Type 0) (test : Truth) (x v : Value) → (if test then Some x else None) ≡ Some v → (test ≡ true → P x) → P v
where_true P true x v e p = subst P (same x v e) (p refl)
where_true P false x v e p = absurd (nothing e)

of_number : (of : ColType) (n : ℤ) (v : Value) → number_value of n ≡ Some v → IsConstantOf of v
of_number kind.Int4 n v e = where_true (IsConstantOf kind.Int4) (is_within (neg_ℤ (pos 2147483648)) (pos 2147483647) n) (value.Int4 n) v e (λ w. (refl, within_4 n w))
of_number kind.Int8 n v e = where_true (IsConstantOf kind.Int8) (is_within (neg_ℤ (pos 9223372036854775808)) (pos 9223372036854775807) n) (value.Int8 n) v e (λ w. (refl, within_8 n w))
of_number kind.Bool n v e = absurd (nothing e)
of_number kind.Text n v e = absurd (nothing e)
of_number kind.Moment n v e = absurd (nothing e)

of_truth : (of : ColType) (t : Truth) (v : Value) → truth_value of t ≡ Some v → IsConstantOf of v
of_truth kind.Bool t v e = subst (IsConstantOf kind.Bool) (same (value.Bool t) v e) refl
of_truth kind.Int4 t v e = absurd (nothing e)
of_truth kind.Int8 t v e = absurd (nothing e)
of_truth kind.Text t v e = absurd (nothing e)
of_truth kind.Moment t v e = absurd (nothing e)

of_string : (of : ColType) (s : List ℕ) (v : Value) → HasNoZero s → StringValue of s (Some v) → IsConstantOf of v
of_string kind.Text s v all is = subst (IsConstantOf kind.Text) (sym (same v (value.Text s) is)) (refl, all)
of_string kind.Bool s v all (plain, (t, spelled, is)) = subst (IsConstantOf kind.Bool) (sym is) refl
of_string kind.Int4 s v all (plain, (n, spelled, fits, is)) = subst (IsConstantOf kind.Int4) (sym is) (refl, fits)
of_string kind.Int8 s v all (plain, (n, spelled, fits, is)) = subst (IsConstantOf kind.Int8) (sym is) (refl, fits)
of_string kind.Moment s v all (plain, (w, spelled, fields, moment, is)) = subst (IsConstantOf kind.Moment) (sym is) (refl, (moment, moment_fits _ moment))

-- the DEFAULT, and what stands behind it
pub fill_given : (of : ColType) (ts : List AnyToken) (f : Fill) (rest : List AnyToken) → FillOf of ts f rest → AreClean ts → IsFillOfKind of f × AreClean rest
fill_given of ts f rest (number n v t is e) clean = (subst (IsFillOfKind of) (sym e) (of_number of n v is), (subst AreClean t clean).1)
fill_given of ts f rest (negative n v t is e) clean = (subst (IsFillOfKind of) (sym e) (of_number of _ v is), (subst AreClean t clean).1.1)
fill_given of ts f rest (least v t is e) clean = (subst (IsFillOfKind of) (sym e) (of_number of _ v is), (subst AreClean t clean).1.1)
fill_given of ts f rest (string s v t is e) clean =
    let all = subst AreClean t clean in
    (subst (IsFillOfKind of) (sym e) (of_string of s v all.0 is), all.1)
fill_given of ts f rest (truth v t is e) clean = (subst (IsFillOfKind of) (sym e) (of_truth of true v is), (subst AreClean t clean).1)
fill_given of ts f rest (falsehood v t is e) clean = (subst (IsFillOfKind of) (sym e) (of_truth of false v is), (subst AreClean t clean).1)
fill_given of ts f rest (null t e) clean = (subst (IsFillOfKind of) (sym e) tt, (subst AreClean t clean).1)
fill_given of ts f rest (now n t is k e) clean = (subst (IsFillOfKind of) (sym e) k, (subst AreClean t clean).1.1.1)
fill_given of ts f rest (current t k e) clean = (subst (IsFillOfKind of) (sym e) k, (subst AreClean t clean).1)
