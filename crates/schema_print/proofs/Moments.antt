-- A moment has a text form.
use Rattle.std.proofs.Common.{◌≡◌, ℤ, List, ℕ, refl, sym, subst, Option, Some, None}
use Rattle.pg_values.specs.declared.value.Value.{Value}
use Rattle.pg_values.specs.declared.value.Value.TheVariants as value
use Rattle.pg_values.specs.Range.{IsInRange}
use Rattle.pg_values.specs.Text.{IsTextOf}
use Rattle.sql_print.specs.Spelling.{spelled, string}
use Rattle.schema_print.specs.Printed.{IsConstantText}
use Rattle.schema.specs.Ranges.{IsMomentInRange, IsConstantInRange}

pub in_range : (v : Value) → IsMomentInRange v → IsInRange v
in_range (value.Moment m) is = is
in_range value.Null is = absurd is
in_range (value.Bool b) is = absurd is
in_range (value.Int4 n) is = absurd is
in_range (value.Int8 n) is = absurd is
in_range (value.Text t) is = absurd is

pub has_text : (v : Value) → IsMomentInRange v → IsTextOf v None → ⊥
has_text (value.Moment m) is (printed, none, shown) = let never : None ≡ Some printed = none in absurd (cc)
has_text value.Null is none = is
has_text (value.Bool b) is none = is
has_text (value.Int4 n) is none = is
has_text (value.Int8 n) is none = is
has_text (value.Text t) is none = is

-- the text form, as a string, is the constant's text
pub shows : (v : Value) (printed : List ℕ) → IsMomentInRange v → IsTextOf v (Some printed) → IsConstantText v (spelled (string printed))
shows (value.Moment m) printed is (text, same, shown) =
    let e : Some printed ≡ Some text = same in
    let equal : printed ≡ text = cc in
    (text, shown, subst (λ t. spelled (string t) ≡ spelled (string text)) (sym equal) refl)
shows value.Null printed is shown = absurd is
shows (value.Bool b) printed is shown = absurd is
shows (value.Int4 n) printed is shown = absurd is
shows (value.Int8 n) printed is shown = absurd is
shows (value.Text t) printed is shown = absurd is

pub is_moment : (v : Value) (m : ℤ) → v ≡ value.Moment m → IsConstantInRange v → IsMomentInRange v
is_moment v m is range = subst IsMomentInRange (sym is) (subst IsConstantInRange is range)
