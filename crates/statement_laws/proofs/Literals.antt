-- A literal at each of its places.
use Rattle.std.proofs.Common.{◌≡◌, ◌∙◌, ◌⊎◌, inl, inr, suc, ◌<◌, ℤ, pos, negsuc, ◌+ℤ◌, List, [], ◌∷◌, map, refl, ap, sym, subst, arith}
use Rattle.std.specs.Prelude.{◌==◌, Bool as Truth, true, false, None, Ok, if◌then◌else◌}
use Rattle.std.specs.Int.Signed.{le_z}
use Rattle.std.proofs.lemmas.Bool.{eqb-true, eqb-false, leb-true}
use Rattle.pg_values.specs.declared.col_type.ColType.{ColType}
use Rattle.pg_values.specs.declared.col_type.ColType.TheVariants as kind
use Rattle.pg_values.specs.declared.value.Value.{Value}
use Rattle.pg_values.specs.declared.value.Value.TheVariants as value
use Rattle.schema.specs.declared.catalogue.ColumnDef.{ColumnDef}
use Rattle.sql_tree.specs.declared.expr.Expr.{Expr}
use Rattle.sql_tree.specs.declared.expr.Expr.TheVariants as expr
use Rattle.sql_tree.specs.declared.expr.SumPart.{SumPart}
use Rattle.typed_sql.specs.declared.typed.TypedExpr.{TypedExpr}
use Rattle.typed_sql.specs.declared.typed.TypedForm.TheVariants as form
use Rattle.typed_sql.specs.declared.typed.TypedSumPart.{TypedSumPart}
use Rattle.typed_sql.specs.Places.{are_alike, asks_limit, is_whole, same_kind}
use Rattle.typed_sql.specs.Own.{Own, Scope, own}
use Rattle.typed_sql.specs.Steps.{Known}
use Rattle.typed_sql.specs.Typing.{Typed, literal, typed}
use Rattle.typed_sql.proofs.OwnForms.{own_sum}
use Rattle.sql_values.specs.Arithmetic.{as_int8, calculated, summed}
use Rattle.sql_values.specs.Meaning.{Around, Summand, sum_of, value_in}
use Rattle.sql_values.specs.Outcome.{Outcome, of_both}
use Rattle.checked_sql.specs.Sound.{has_no_zero, is_moment, is_value}
use Rattle.checked_print.specs.Spelled.{Spelling, fits_int4, int8_part, is_least_int4 as is_least, number, spelled, spelled_summand, spelled_value, summand, widened}
use Rattle.checked_print.proofs.Forms.{literal_is}
use Rattle.checked_print.specs.Ranges.{fits_int8, is_held}
use Rattle.statement_laws.proofs.Claims.{Again, Said, SameValue, like_place, number_place, place, said_as}
use Rattle.statement_laws.proofs.Alike.{alike_trans, same_is}
use Rattle.statement_laws.proofs.Leaves.{bool_said, int4_said, int8_said, int_negated, minus_not_least, moment_said, negated_by, null_said, text_said}
use Rattle.statement_laws.proofs.Nodes.{IsNegated, sum_said}
use Rattle.statement_laws.proofs.Numbers.{back_again, both_of, int4_fits, int8_is, least_not, number_least, number_negative, number_pos, strictly, wide_below, widened_fits}
use Rattle.statement_laws.proofs.Own.{own_bool, own_moment, own_null, own_str}
use Rattle.statement_laws.proofs.Sure.{Sure, along}
use Rattle.statement_laws.proofs.Values.{at_literal, at_sum, summand_in}

-- the same, or an int4 in place of an int8 of that number
abbrev pub Near : ColType → Outcome → Outcome → Type 0
Near k o p = (p ≡ o) ⊎ ((n : ℤ) × (p ≡ Ok (value.Int4 n)) × (o ≡ Ok (value.Int8 n)) × (fits_int4 n ≡ true) × (k ≡ kind.Int8))

-- it comes to the same, or to an int4 where the other comes to that number as an int8
abbrev pub NearValue : TypedExpr → TypedExpr → Type 0
NearValue e y = (around : Around) → Near e.kind (value_in around e) (value_in around y)

-- ---- the numbers of int8 that are sums

abbrev bound : ℤ
bound = pos 2147483648

abbrev int8 : ℤ → TypedExpr
int8 n = literal kind.Int8 (value.Int8 n)

abbrev part : Truth → TypedExpr → TypedSumPart
part minus e = record { minus = minus; part = e }

not_bound : (n : ℤ) → fits_int4 n ≡ true → ¬ (n ≡ bound)
not_bound n fits is = let f : false ≡ true = ap fits_int4 (sym is) ∙ fits in cc

not_least : (n : ℤ) → is_least n ≡ false → ¬ (n ≡ bound)
not_least n other is = let f : true ≡ false = ap is_least (sym is) ∙ other in cc

least_is : (n : ℤ) → is_least n ≡ true → n ≡ bound
least_is (pos k) is =
    let both = both_of (le_z bound (pos k)) (le_z (pos k) bound) is in
    let low = leb-true 2147483648 k both.0 in
    let high = leb-true k 2147483648 both.1 in
    let same : k ≡ 2147483648 = omega (arith, low, high) in
    ap pos same
least_is (negsuc k) is = absurd (let f : false ≡ true = is in cc)

put : (minus : Truth) (left : Value) (right : ℤ) (next : Value) → calculated (summed minus) left (value.Int8 right) ≡ Ok next
    → of_both (λ v w. calculated (summed minus) v w) (Ok left) (Ok (value.Int8 right)) ≡ Ok next
put minus left right next is = is

module _ (around : Around) (e : TypedExpr) (a : TypedExpr) (n : ℤ) (first : value_in around a ≡ Ok (value.Int4 n)) (fits : fits_int4 n ≡ true)
    (is : e.form ≡ form.Sum a (part false (int8 bound) ∷ part true (int8 bound) ∷ [])) where
  summand_of : (minus : Truth) → summand_in around (part minus (int8 bound)) ≡ (minus, Ok (value.Int8 bound))
  summand_of minus = ap (λ (o : Outcome). (minus, o)) (at_literal around (int8 bound) (value.Int8 bound) refl)

  -- the sum of the number, 2147483648 and -2147483648 is the number as an int8
  widened_value : value_in around e ≡ Ok (value.Int8 n)
  widened_value =
      at_sum around e a (part false (int8 bound) ∷ part true (int8 bound) ∷ []) is
      ∙ (ap (λ (o : Outcome). sum_of o (summand_in around (part false (int8 bound)) ∷ summand_in around (part true (int8 bound)) ∷ [])) first
      ∙ (ap (λ (s : Summand). sum_of (Ok (value.Int4 n)) (s ∷ summand_in around (part true (int8 bound)) ∷ [])) (summand_of false)
      ∙ (ap (λ (s : Summand). sum_of (Ok (value.Int4 n)) ((false, Ok (value.Int8 bound)) ∷ s ∷ [])) (summand_of true)
      ∙ (ap (λ (o : Outcome). of_both (calculated (summed true)) o (Ok (value.Int8 bound))) (int8_is (n +ℤ bound) (widened_fits n fits))
      ∙ (ap as_int8 (back_again n) ∙ int8_is n (int4_fits n fits))))))

module _ (scope : Scope) (known : Known) (columns : List ColumnDef) where
  -- a literal as a part
  literal_part : (v : Value) (x : Expr) → (spelled_value v).part ≡ x → (k : ColType) → spelled columns (literal k v) ≡ x
  literal_part v x is k = ap (λ (s : Spelling). s.part) (literal_is columns (literal k v) v refl) ∙ is

  bound_said : Said scope known (int8 bound) (expr.Int bound)
  bound_said = int8_said scope known (int8 bound) bound refl refl refl refl

  spelled_bound : spelled columns (int8 bound) ≡ expr.Int bound
  spelled_bound = literal_part (value.Int8 bound) (expr.Int bound) refl kind.Int8

  bound_part : (minus : Truth) → spelled_summand columns (part minus (int8 bound)) ≡ summand minus (expr.Int bound)
  bound_part minus = ap (summand minus) spelled_bound

  -- an int8 that would be read as an int4
  pub widened_said : (e : TypedExpr) (n : ℤ) → e.form ≡ form.Literal (value.Int8 n) → e.kind ≡ kind.Int8 → fits_int4 n ≡ true → Said scope known e (widened n)
  widened_said e n is of fits =
      let a = literal kind.Int4 (value.Int4 n) in
      let ss = part false (int8 bound) ∷ part true (int8 bound) ∷ [] in
      let m = typed kind.Int8 (form.Sum a ss) in
      let first : spelled columns a ≡ number n = literal_part (value.Int4 n) (number n) refl kind.Int4 in
      let big : Said scope known (int8 bound) (spelled columns (int8 bound)) = subst (Said scope known (int8 bound)) (sym spelled_bound) bound_said in
      let whole : expr.Sum (spelled columns a) (map (spelled_summand columns) ss) ≡ widened n =
      ap (λ (x : Expr). expr.Sum x (map (spelled_summand columns) ss)) first
      ∙ (ap (λ (s : SumPart). expr.Sum (number n) (s ∷ spelled_summand columns (part true (int8 bound)) ∷ [])) (bound_part false)
      ∙ ap (λ (s : SumPart). expr.Sum (number n) (summand false (expr.Int bound) ∷ s ∷ [])) (bound_part true)) in
      subst (Said scope known e) whole
      (said_as scope known e m (expr.Sum (spelled columns a) (map (spelled_summand columns) ss)) of
      (λ around. widened_value around m a n (at_literal around a (value.Int4 n) refl) fits refl ∙ sym (at_literal around e (value.Int8 n) is))
      (sum_said scope known columns m a ss refl (omega arith) refl
      (subst (Said scope known a) (sym first) (int4_said scope known a n refl refl fits)) refl ((big, refl), ((big, refl), tt))))

  -- ---- 2147483648 behind a minus

  zero_said : Said scope known (literal kind.Int4 (value.Int4 (pos 0))) (expr.Int (pos 0))
  zero_said = int4_said scope known (literal kind.Int4 (value.Int4 (pos 0))) (pos 0) refl refl refl

  zero_value : (around : Around) (e : TypedExpr) → e.form ≡ form.Sum (int8 bound) (part false (literal kind.Int4 (value.Int4 (pos 0))) ∷ []) → value_in around e ≡ Ok (value.Int8 bound)
  zero_value around e is =
      at_sum around e (int8 bound) (part false (literal kind.Int4 (value.Int4 (pos 0))) ∷ []) is
      ∙ (ap (λ (o : Outcome). sum_of o (summand_in around (part false (literal kind.Int4 (value.Int4 (pos 0)))) ∷ [])) (at_literal around (int8 bound) (value.Int8 bound) refl)
      ∙ ap (λ (o : Outcome). sum_of (Ok (value.Int8 bound)) ((false, o) ∷ [])) (at_literal around (literal kind.Int4 (value.Int4 (pos 0))) (value.Int4 (pos 0)) refl))

  sum_not_least : (x : Expr) (xs : List SumPart) → (own scope [] (expr.Sum x xs)).least_int4 ≡ false
  sum_not_least x xs = ap (λ (o : Own). o.least_int4) (own_sum scope [] x xs)

  bound_negated : (e : TypedExpr) (n : ℤ) → n ≡ bound → e.form ≡ form.Literal (value.Int8 n) → e.kind ≡ kind.Int8
      → IsNegated scope known e (expr.Sum (expr.Int n) (summand false (expr.Int (pos 0)) ∷ []))
  bound_negated e n same is of =
      let zero = literal kind.Int4 (value.Int4 (pos 0)) in
      let m = typed kind.Int8 (form.Sum (int8 bound) (part false zero ∷ [])) in
      let nothing : spelled columns zero ≡ expr.Int (pos 0) = literal_part (value.Int4 (pos 0)) (expr.Int (pos 0)) refl kind.Int4 in
      let whole : expr.Sum (spelled columns (int8 bound)) (map (spelled_summand columns) (part false zero ∷ [])) ≡ expr.Sum (expr.Int n) (summand false (expr.Int (pos 0)) ∷ []) =
      ap (λ (x : Expr). expr.Sum x (map (spelled_summand columns) (part false zero ∷ []))) (spelled_bound ∙ ap expr.Int (sym same))
      ∙ ap (λ (x : Expr). expr.Sum (expr.Int n) (summand false x ∷ [])) nothing in
      let said : Said scope known e (expr.Sum (expr.Int n) (summand false (expr.Int (pos 0)) ∷ [])) =
      subst (Said scope known e) whole
      (said_as scope known e m (expr.Sum (spelled columns (int8 bound)) (map (spelled_summand columns) (part false zero ∷ []))) of
      (λ around. zero_value around m refl ∙ (ap (λ (k : ℤ). Ok (value.Int8 k)) (sym same) ∙ sym (at_literal around e (value.Int8 n) is)))
      (sum_said scope known columns m (int8 bound) (part false zero ∷ []) refl (omega arith) refl
      (subst (Said scope known (int8 bound)) (sym spelled_bound) bound_said) refl
      ((subst (Said scope known zero) (sym nothing) zero_said, refl), tt))) in
      negated_by scope known e (expr.Sum (expr.Int n) (summand false (expr.Int (pos 0)) ∷ [])) (sum_not_least (expr.Int n) (summand false (expr.Int (pos 0)) ∷ [])) (ap is_whole of) said

  number_not_least : (n : ℤ) → ¬ (n ≡ bound) → fits_int8 n ≡ true → (own scope [] (number n)).least_int4 ≡ false
  number_not_least (pos k) other fits =
      ap (λ (x : Expr). (own scope [] x).least_int4) (number_pos k) ∙ int_negated scope known (pos k) (least_not k (λ same. other (ap pos same)))
  number_not_least (negsuc k) other fits = by_least (k == 9223372036854775807) refl
    where
      by_least : (b : Truth) → (k == 9223372036854775807) ≡ b → (own scope [] (number (negsuc k))).least_int4 ≡ false
      by_least true same =
          let last : k ≡ 9223372036854775807 = eqb-true k 9223372036854775807 same in
          ap (λ (x : Expr). (own scope [] x).least_int4) (number_least k (omega (arith, last))) ∙ int_negated scope known (negsuc k) refl
      by_least false same =
          let few = wide_below k fits in
          let less : ¬ (k ≡ 9223372036854775807) = eqb-false k 9223372036854775807 same in
          let below : k < 9223372036854775807 = strictly k 9223372036854775807 few less in
          ap (λ (x : Expr). (own scope [] x).least_int4) (number_negative k below) ∙ minus_not_least scope known (expr.Int (pos (suc k)))

  -- ---- each literal

  int8_by : (b : Truth) (e : TypedExpr) (n : ℤ) → fits_int4 n ≡ b → e.form ≡ form.Literal (value.Int8 n) → e.kind ≡ kind.Int8 → fits_int8 n ≡ true
      → Said scope known e (if b then widened n else number n)
  int8_by true e n fits is of held = widened_said e n is of fits
  int8_by false e n beyond is of held = int8_said scope known e n is (ap is_whole of) beyond held

  part_said : (e : TypedExpr) (n : ℤ) → e.form ≡ form.Literal (value.Int8 n) → e.kind ≡ kind.Int8 → fits_int8 n ≡ true → Said scope known e (int8_part n)
  part_said e n is of held = int8_by (fits_int4 n) e n refl is of held

  pub literal_said : (e : TypedExpr) (v : Value) → e.form ≡ form.Literal v → is_value e.kind v ≡ true → is_held v ≡ true → Said scope known e (spelled_value v).part
  literal_said e value.Null is of held = null_said scope known e is
  literal_said e (value.Bool b) is of held = bool_said scope known e b is (same_is e.kind kind.Bool of)
  literal_said e (value.Int4 n) is of held = int4_said scope known e n is (ap is_whole (same_is e.kind kind.Int4 of)) held
  literal_said e (value.Int8 n) is of held = part_said e n is (same_is e.kind kind.Int8 of) held
  literal_said e (value.Text text) is of held =
      text_said scope known e text is (same_is e.kind kind.Text (both_of (same_kind e.kind kind.Text) (has_no_zero text) of).0)
  literal_said e (value.Moment m) is of held =
      let both = both_of (same_kind e.kind kind.Moment) (is_moment m) of in
      moment_said scope known e m is (same_is e.kind kind.Moment both.0) both.1

  -- ---- behind a minus

  part_not_least : (b : Truth) (n : ℤ) → ¬ (n ≡ bound) → fits_int8 n ≡ true → (own scope [] (if b then widened n else number n)).least_int4 ≡ false
  part_not_least true n other held = sum_not_least (number n) (summand false (expr.Int bound) ∷ summand true (expr.Int bound) ∷ [])
  part_not_least false n other held = number_not_least n other held

  int8_negated_by : (b : Truth) (e : TypedExpr) (n : ℤ) → is_least n ≡ b → e.form ≡ form.Literal (value.Int8 n) → e.kind ≡ kind.Int8 → fits_int8 n ≡ true
      → IsNegated scope known e (if b then expr.Sum (expr.Int n) (summand false (expr.Int (pos 0)) ∷ []) else int8_part n)
  int8_negated_by true e n least is of held = bound_negated e n (least_is n least) is of
  int8_negated_by false e n other is of held =
      negated_by scope known e (int8_part n) (part_not_least (fits_int4 n) n (not_least n other) held) (ap is_whole of) (part_said e n is of held)

  pub literal_negated : (e : TypedExpr) (v : Value) → e.form ≡ form.Literal v → is_value e.kind v ≡ true → is_held v ≡ true → is_whole e.kind ≡ true
      → IsNegated scope known e (spelled_value v).negated
  literal_negated e value.Null is of held whole =
      negated_by scope known e expr.Null (ap (λ (o : Own). o.least_int4) (own_null scope [])) whole (literal_said e value.Null is of held)
  literal_negated e (value.Bool b) is of held whole =
      negated_by scope known e (expr.Bool b) (ap (λ (o : Own). o.least_int4) (own_bool scope [] b)) whole (literal_said e (value.Bool b) is of held)
  literal_negated e (value.Int4 n) is of held whole =
      negated_by scope known e (number n) (number_not_least n (not_bound n held) (int4_fits n held)) whole (literal_said e (value.Int4 n) is of held)
  literal_negated e (value.Int8 n) is of held whole = int8_negated_by (is_least n) e n refl is (same_is e.kind kind.Int8 of) held
  literal_negated e (value.Text text) is of held whole =
      negated_by scope known e (expr.Str text) (ap (λ (o : Own). o.least_int4) (own_str scope [] text)) whole (literal_said e (value.Text text) is of held)
  literal_negated e (value.Moment m) is of held whole =
      negated_by scope known e (spelled_value (value.Moment m)).part (ap (λ (o : Own). o.least_int4) (own_moment scope [] _)) whole (literal_said e (value.Moment m) is of held)

  -- ---- as a whole cell, a value of SET or a limit

  abbrev pub IsWhole : TypedExpr → Expr → Type 0
  IsWhole e x = ((k : ColType) → are_alike k e.kind ≡ true → Sure (NearValue e) known (Typed scope x (place k)))
      × (is_whole e.kind ≡ true → Sure (NearValue e) known (Typed scope x asks_limit))

  pub whole_as_part : (e : TypedExpr) (x : Expr) → Said scope known e x → IsWhole e x
  whole_as_part e x said = (
    λ k alike. along (Again (λ j. are_alike k j ≡ true) e) (NearValue e) known (Typed scope x (place k)) (like_place scope known k e x said alike) (λ y is around. inl (is.1 around)),
    λ whole. along (Again (λ j. is_whole j ≡ true) e) (NearValue e) known (Typed scope x asks_limit) (number_place scope known None e x said whole) (λ y is around. inl (is.1 around)),
  )

  near_by : (e y : TypedExpr) (n : ℤ) → e.form ≡ form.Literal (value.Int8 n) → e.kind ≡ kind.Int8 → fits_int4 n ≡ true → SameValue (literal kind.Int4 (value.Int4 n)) y → NearValue e y
  near_by e y n is of fits same around =
      inr (n, same around ∙ at_literal around (literal kind.Int4 (value.Int4 n)) (value.Int4 n) refl, at_literal around e (value.Int8 n) is, fits, of)

  whole_by : (b : Truth) (e : TypedExpr) (n : ℤ) → fits_int4 n ≡ b → e.form ≡ form.Literal (value.Int8 n) → e.kind ≡ kind.Int8 → fits_int8 n ≡ true → IsWhole e (number n)
  whole_by true e n fits is of held =
      let a = literal kind.Int4 (value.Int4 n) in
      let said = int4_said scope known a n refl refl fits in (
        λ k alike. along (Again (λ j. are_alike k j ≡ true) a) (NearValue e) known (Typed scope (number n) (place k))
            (like_place scope known k a (number n) said (alike_trans k e.kind kind.Int4 alike (ap (λ (j : ColType). are_alike j kind.Int4) of))) (λ y same. near_by e y n is of fits same.1),
        λ whole. along (Again (λ j. is_whole j ≡ true) a) (NearValue e) known (Typed scope (number n) asks_limit)
            (number_place scope known None a (number n) said refl) (λ y same. near_by e y n is of fits same.1),
      )
  whole_by false e n beyond is of held = whole_as_part e (number n) (int8_said scope known e n is (ap is_whole of) beyond held)

  pub literal_whole : (e : TypedExpr) (v : Value) → e.form ≡ form.Literal v → is_value e.kind v ≡ true → is_held v ≡ true → IsWhole e (spelled_value v).whole
  literal_whole e (value.Int8 n) is of held = whole_by (fits_int4 n) e n refl is (same_is e.kind kind.Int8 of) held
  literal_whole e value.Null is of held = whole_as_part e expr.Null (literal_said e value.Null is of held)
  literal_whole e (value.Bool b) is of held = whole_as_part e (expr.Bool b) (literal_said e (value.Bool b) is of held)
  literal_whole e (value.Int4 n) is of held = whole_as_part e (number n) (literal_said e (value.Int4 n) is of held)
  literal_whole e (value.Text text) is of held = whole_as_part e (expr.Str text) (literal_said e (value.Text text) is of held)
  literal_whole e (value.Moment m) is of held = whole_as_part e (spelled_value (value.Moment m)).part (literal_said e (value.Moment m) is of held)
