-- The spelling of an expression whose nodes are sound may be written, and its whole numbers are of int8, at each of its places.
use Rattle.std.proofs.Common.{rules, ◌≡◌, ◌∙◌, ℕ, zero, suc, ◌<◌, ◌≤◌, ◌^◌, ℤ, pos, negsuc, List, [], ◌∷◌, ◌++◌, length, map, refl, ap, sym, subst, arith}
use Rattle.std.specs.Prelude.{◌&&◌, ◌==◌, ◌≢◌, All, max, codes, Bool as Truth, true, false, Option, Some, None, slice_get, if◌then◌else◌}
use Rattle.std.specs.List.{flat_map, list_all}
use Rattle.std.proofs.lemmas.Bool.{eqb-true, eqb-false, leb-true, ltb-true}
use Rattle.std.proofs.Math.Nat.{max-le}
use Rattle.pg_values.specs.declared.col_type.ColType.{ColType}
use Rattle.pg_values.specs.declared.col_type.ColType.TheVariants as kind
use Rattle.pg_values.specs.declared.value.Value.{Value}
use Rattle.pg_values.specs.declared.value.Value.TheVariants as value
use Rattle.schema.specs.declared.catalogue.ColumnDef.{ColumnDef}
use Rattle.sql_tokens.specs.declared.mark.Mark.TheVariants as marks
use Rattle.sql_tokens.specs.declared.word.Word.TheVariants as words
use Rattle.sql_tree.specs.declared.expr.Comparison.{Comparison}
use Rattle.sql_tree.specs.declared.expr.Comparison.TheVariants as comparison
use Rattle.sql_tree.specs.declared.expr.ProductSign.{ProductSign}
use Rattle.sql_tree.specs.declared.expr.ProductSign.TheVariants as product_sign
use Rattle.sql_tree.specs.declared.expr.Expr.{Expr, the_lemmas}
use Rattle.sql_tree.specs.declared.expr.Expr.TheOpen.{Expr-F}
use Rattle.sql_tree.specs.declared.expr.Expr.TheVariants as expr
use Rattle.sql_tree.specs.declared.expr.SumPart.{SumPart, fold-SumPart}
use Rattle.sql_tree.specs.declared.expr.ProductPart.{ProductPart, fold-ProductPart}
use Rattle.sql_print.specs.Spelling.{Lexeme, word, mark, sign, name, whole, string, param}
use Rattle.sql_print.specs.Printed.{Printed, printed, part, part_tokens, expr_tokens, summand_tokens, factor_tokens, joined, compound, simple, truth, test, compares, multiplies, adds, negation, enclosed, call}
use Rattle.sql_print.specs.Printed as print
use Rattle.sql_print.proofs.Forms.{printed_or, printed_and, printed_not, printed_is_null, printed_compare, printed_member, printed_concat, printed_sum, printed_product, printed_minus, printed_int, printed_str, printed_bool, printed_null, printed_param, printed_column, printed_current, printed_now, printed_transaction, printed_moment}
use Rattle.sql_profile.specs.Lexemes.{HasNoZero}
use Rattle.sql_profile.proofs.Each.{Each, each_map}
use Rattle.sql_profile.specs.Numbers.{greatest, greatest_number, number_layer}
use Rattle.sql_profile.proofs.Trees.{reaches}
use Rattle.sql_profile.specs.Writable.{AreWritable, IsWritable}
use Rattle.typed_sql.specs.declared.typed.TypedExpr.{TypedExpr}
use Rattle.typed_sql.specs.declared.typed.TypedForm.{TypedForm, roll-TypedForm, map-TypedForm}
use Rattle.typed_sql.specs.declared.typed.TypedForm.TheOpen.{TypedForm-F, TypedExpr-F, TypedProductPart-F, TypedSumPart-F}
use Rattle.typed_sql.specs.declared.typed.TypedForm.TheFolds.{ind-TypedExpr}
use Rattle.typed_sql.specs.declared.typed.TypedForm.TheVariants as form
use Rattle.typed_sql.specs.declared.typed.TypedSumPart.{TypedSumPart}
use Rattle.typed_sql.specs.declared.typed.TypedProductPart.{TypedProductPart}
use Rattle.typed_sql.specs.declared.asks.Takes.{Takes}
use Rattle.typed_sql.specs.declared.asks.Takes.TheVariants.{Any, Whole, Like}
use Rattle.typed_sql.specs.Places.{same_kind, takes as takes_kind}
use Rattle.checked_sql.specs.Sound.{Names, form_in, has_column, has_no_zero, has_one, has_two, is_moment, is_parameter, is_some_byte, is_sound, is_value, stands}
use Rattle.checked_sql.specs.OfCatalogue.{around}
use Rattle.checked_sql.proofs.Forms.{fits_and, fits_compare, fits_concat, fits_is_null, fits_member, fits_minus, fits_not, fits_or, fits_product, fits_sum, gives_column, gives_literal, gives_param, sound_by_form}
use Rattle.checked_print.specs.Moments.{moment_text}
use Rattle.checked_print.specs.Spelled.{Spelling, always, column_name, fits_int4, int8_part, is_least_int4, number, spelled, spelled_factor, spelled_negated, spelled_summand, spelled_value, spelling, summand, widened}
use Rattle.checked_print.proofs.Forms.{and_is, column_is, compare_is, concat_is, current_is, is_null_is, literal_is, member_is, minus_is, not_is, now_is, or_is, param_is, product_is, sum_is, transaction_is}
use Rattle.checked_print.specs.Ranges.{fits_int8, held_layer, is_held_expr, is_held}
use Rattle.checked_print.proofs.Held.{factor_by, factor_held, form_held, held_at, held_by_form, summand_by, summand_held}
use Rattle.statement_laws.proofs.Leaves.{moment_again, moment_within}
use Rattle.statement_laws.proofs.Numbers.{both_of, int4_fits, number_least, number_negative, number_pos, strictly, wide, wide_below}

-- ---- lists of lexemes

pub writable_append : (xs ys : List Lexeme) → AreWritable xs → AreWritable ys → AreWritable (xs ++ ys)
writable_append [] ys first second = second
writable_append (x ∷ xs) ys first second = (first.0, writable_append xs ys first.1 second)

pub writable_enclosed : (xs : List Lexeme) → AreWritable xs → AreWritable (enclosed xs)
writable_enclosed xs all = (tt, writable_append xs (mark marks.Close ∷ []) all (tt, tt))

part_writable : (p : Printed) → AreWritable p.tokens → AreWritable (part p)
part_writable p all = go p.compound
  where
    go : (b : Truth) → AreWritable (if b then enclosed p.tokens else p.tokens)
    go true = writable_enclosed p.tokens all
    go false = all

pub writable_flat : {A : Type 0} (text : A → List Lexeme) (items : List A) → Each (λ a. AreWritable (text a)) items → AreWritable (flat_map text items)
writable_flat text [] each = tt
writable_flat text (a ∷ items) each = writable_append (text a) (flat_map text items) each.0 (writable_flat text items each.1)

pub writable_joined : {A : Type 0} (between : Lexeme) → IsWritable between → (text : A → List Lexeme) (items : List A) → Each (λ a. AreWritable (text a)) items
    → AreWritable (joined between text items)
writable_joined between may text [] each = tt
writable_joined between may text (a ∷ items) each =
    writable_append (text a) (flat_map (λ b. between ∷ text b) items) each.0
    (writable_flat (λ b. between ∷ text b) items (each_map (λ b all. (may, all)) items each.1))

writable_tests : (tests : List Truth) → AreWritable (flat_map test tests)
writable_tests [] = tt
writable_tests (true ∷ tests) = (tt, (tt, (tt, writable_tests tests)))
writable_tests (false ∷ tests) = (tt, (tt, writable_tests tests))

compares_may : (how : Comparison) → IsWritable (mark (compares how))
compares_may comparison.Equal = tt
compares_may comparison.Unequal = tt
compares_may comparison.Less = tt
compares_may comparison.AtMost = tt
compares_may comparison.Greater = tt
compares_may comparison.AtLeast = tt

adds_may : (minus : Truth) → IsWritable (mark (adds minus))
adds_may true = tt
adds_may false = tt

multiplies_may : (sign : ProductSign) → IsWritable (mark (multiplies sign))
multiplies_may product_sign.Times = tt
multiplies_may product_sign.Over = tt
multiplies_may product_sign.Rest = tt

-- ---- what may be written, its numbers below 2 ^ 63

abbrev pub Fine : Expr → Type 0
Fine x = (greatest_number x < 2 ^ 63) × AreWritable (expr_tokens x)

below : (a b : ℕ) → a < 2 ^ 63 → b < 2 ^ 63 → max a b < 2 ^ 63
below a b first second =
    let least : max a b ≤ 9223372036854775807 = max-le (omega (arith, first)) (omega (arith, second)) in omega (arith, least)

as_part : (x : Expr) → Fine x → AreWritable (part_tokens x)
as_part x fine = part_writable (printed x) fine.1

-- by the layer of its form
abbrev folded_summand : SumPart → ℕ
folded_summand = fold-SumPart ℕ ℕ ℕ number_layer (λ factor. factor.part) (λ summand. summand.part)

abbrev folded_factor : ProductPart → ℕ
folded_factor = fold-ProductPart ℕ ℕ ℕ number_layer (λ factor. factor.part) (λ summand. summand.part)

summand_number : (s : SumPart) → folded_summand s ≡ greatest_number s.part
summand_number s = search (rules, the_lemmas)

factor_number : (s : ProductPart) → folded_factor s ≡ greatest_number s.part
factor_number s = search (rules, the_lemmas)

made : (x : Expr) (p : Printed) (n : ℕ) → printed x ≡ p → greatest_number x ≡ n → n < 2 ^ 63 → AreWritable p.tokens → Fine x
made x p n prints is low all = (subst (λ (k : ℕ). k < 2 ^ 63) (sym is) low, subst (λ (q : Printed). AreWritable q.tokens) (sym prints) all)

all_low : (xs : List Expr) → Each Fine xs → greatest (map greatest_number xs) < 2 ^ 63
all_low [] each = omega arith
all_low (x ∷ xs) each = below (greatest_number x) (greatest (map greatest_number xs)) (each.0).0 (all_low xs each.1)

parts_writable : (xs : List Expr) → Each Fine xs → Each (λ x. AreWritable (part_tokens x)) xs
parts_writable xs each = each_map as_part xs each

summands_low : (xs : List SumPart) → Each (λ s. Fine s.part) xs → greatest (map folded_summand xs) < 2 ^ 63
summands_low [] each = omega arith
summands_low (s ∷ xs) each =
    below (folded_summand s) (greatest (map folded_summand xs)) (subst (λ (k : ℕ). k < 2 ^ 63) (sym (summand_number s)) (each.0).0) (summands_low xs each.1)

factors_low : (xs : List ProductPart) → Each (λ s. Fine s.part) xs → greatest (map folded_factor xs) < 2 ^ 63
factors_low [] each = omega arith
factors_low (s ∷ xs) each =
    below (folded_factor s) (greatest (map folded_factor xs)) (subst (λ (k : ℕ). k < 2 ^ 63) (sym (factor_number s)) (each.0).0) (factors_low xs each.1)

or_fine : (xs : List Expr) → Each Fine xs → Fine (expr.Or xs)
or_fine xs each = made (expr.Or xs) (compound (joined (word words.Or) part_tokens xs)) (greatest (map greatest_number xs)) (printed_or xs)
    (ap greatest_number (sym (expr.rolls-Or xs)) ∙ reaches (Expr-F.Or xs)) (all_low xs each) (writable_joined (word words.Or) tt part_tokens xs (parts_writable xs each))

and_fine : (xs : List Expr) → Each Fine xs → Fine (expr.And xs)
and_fine xs each = made (expr.And xs) (compound (joined (word words.And) part_tokens xs)) (greatest (map greatest_number xs)) (printed_and xs)
    (ap greatest_number (sym (expr.rolls-And xs)) ∙ reaches (Expr-F.And xs)) (all_low xs each) (writable_joined (word words.And) tt part_tokens xs (parts_writable xs each))

concat_fine : (xs : List Expr) → Each Fine xs → Fine (expr.Concat xs)
concat_fine xs each = made (expr.Concat xs) (compound (joined (mark marks.Bars) part_tokens xs)) (greatest (map greatest_number xs)) (printed_concat xs)
    (ap greatest_number (sym (expr.rolls-Concat xs)) ∙ reaches (Expr-F.Concat xs)) (all_low xs each) (writable_joined (mark marks.Bars) tt part_tokens xs (parts_writable xs each))

not_fine : (x : Expr) → Fine x → Fine (expr.Not x)
not_fine x fine = made (expr.Not x) (compound (word words.Not ∷ part_tokens x)) (greatest_number x) (printed_not x)
    (ap greatest_number (sym (expr.rolls-Not x)) ∙ reaches (Expr-F.Not x)) fine.0 (tt, as_part x fine)

is_null_fine : (x : Expr) (tests : List Truth) → Fine x → Fine (expr.IsNull x tests)
is_null_fine x tests fine = made (expr.IsNull x tests) (compound (part_tokens x ++ flat_map test tests)) (greatest_number x) (printed_is_null x tests)
    (ap greatest_number (sym (expr.rolls-IsNull x tests)) ∙ reaches (Expr-F.IsNull x tests)) fine.0
    (writable_append (part_tokens x) (flat_map test tests) (as_part x fine) (writable_tests tests))

compare_fine : (how : Comparison) (x y : Expr) → Fine x → Fine y → Fine (expr.Compare how x y)
compare_fine how x y first second = made (expr.Compare how x y) (compound (part_tokens x ++ mark (compares how) ∷ part_tokens y)) (max (greatest_number x) (greatest_number y)) (printed_compare how x y)
    (ap greatest_number (sym (expr.rolls-Compare how x y)) ∙ reaches (Expr-F.Compare how x y)) (below (greatest_number x) (greatest_number y) first.0 second.0)
    (writable_append (part_tokens x) (mark (compares how) ∷ part_tokens y) (as_part x first) (compares_may how, as_part y second))

negation_writable : (negated : Truth) (xs : List Lexeme) → AreWritable xs → AreWritable (negation negated ++ xs)
negation_writable true xs all = (tt, all)
negation_writable false xs all = all

member_fine : (x : Expr) (negated : Truth) (xs : List Expr) → Fine x → Each Fine xs → Fine (expr.Member x negated xs)
member_fine x negated xs first each =
    let listed = joined (mark marks.Comma) part_tokens xs in
    made (expr.Member x negated xs) (compound (part_tokens x ++ (negation negated ++ word words.In ∷ enclosed listed))) (max (greatest_number x) (greatest (map greatest_number xs))) (printed_member x negated xs)
    (ap greatest_number (sym (expr.rolls-Member x negated xs)) ∙ reaches (Expr-F.Member x negated xs)) (below (greatest_number x) (greatest (map greatest_number xs)) first.0 (all_low xs each))
    (writable_append (part_tokens x) (negation negated ++ word words.In ∷ enclosed listed) (as_part x first)
    (negation_writable negated (word words.In ∷ enclosed listed)
    (tt, writable_enclosed listed (writable_joined (mark marks.Comma) tt part_tokens xs (parts_writable xs each)))))

sum_fine : (x : Expr) (xs : List SumPart) → Fine x → Each (λ s. Fine s.part) xs → Fine (expr.Sum x xs)
sum_fine x xs first each =
    made (expr.Sum x xs) (compound (part_tokens x ++ flat_map summand_tokens xs)) (max (greatest_number x) (greatest (map folded_summand xs))) (printed_sum x xs)
    (ap greatest_number (sym (expr.rolls-Sum x xs)) ∙ reaches (Expr-F.Sum x xs)) (below (greatest_number x) (greatest (map folded_summand xs)) first.0 (summands_low xs each))
    (writable_append (part_tokens x) (flat_map summand_tokens xs) (as_part x first)
    (writable_flat summand_tokens xs (each_map (λ (s : SumPart) fine. (adds_may s.minus, as_part s.part fine)) xs each)))

product_fine : (x : Expr) (xs : List ProductPart) → Fine x → Each (λ s. Fine s.part) xs → Fine (expr.Product x xs)
product_fine x xs first each =
    made (expr.Product x xs) (compound (part_tokens x ++ flat_map factor_tokens xs)) (max (greatest_number x) (greatest (map folded_factor xs))) (printed_product x xs)
    (ap greatest_number (sym (expr.rolls-Product x xs)) ∙ reaches (Expr-F.Product x xs)) (below (greatest_number x) (greatest (map folded_factor xs)) first.0 (factors_low xs each))
    (writable_append (part_tokens x) (flat_map factor_tokens xs) (as_part x first)
    (writable_flat factor_tokens xs (each_map (λ (s : ProductPart) fine. (multiplies_may s.sign, as_part s.part fine)) xs each)))

minus_fine : (x : Expr) → Fine x → Fine (expr.Minus x)
minus_fine x fine = made (expr.Minus x) (compound (sign ∷ part_tokens x)) (greatest_number x) (printed_minus x)
    (ap greatest_number (sym (expr.rolls-Minus x)) ∙ reaches (Expr-F.Minus x)) fine.0 (tt, as_part x fine)

natural : (k : ℕ) → k < 2 ^ 63 → Fine (expr.Int (pos k))
natural k low = made (expr.Int (pos k)) (print.number (pos k)) k (printed_int (pos k))
    (ap greatest_number (sym (expr.rolls-Int (pos k))) ∙ reaches (Expr-F.Int (pos k))) low (omega (arith, low), tt)

least_fine : Fine (expr.Int (negsuc 9223372036854775807))
least_fine = made (expr.Int (negsuc 9223372036854775807)) (print.number (negsuc 9223372036854775807)) 0 (printed_int (negsuc 9223372036854775807))
    (ap greatest_number (sym (expr.rolls-Int (negsuc 9223372036854775807))) ∙ reaches (Expr-F.Int (negsuc 9223372036854775807))) (omega arith) (tt, (omega arith, tt))

-- what has no number
plain : (x : Expr) (p : Printed) → printed x ≡ p → greatest_number x ≡ 0 → AreWritable p.tokens → Fine x
plain x p prints is all = made x p 0 prints is (omega arith) all

null_fine : Fine expr.Null
null_fine = plain expr.Null (simple (word words.Null ∷ [])) printed_null (ap greatest_number (sym expr.rolls-Null) ∙ reaches Expr-F.Null) (tt, tt)

bool_fine : (b : Truth) → Fine (expr.Bool b)
bool_fine b = plain (expr.Bool b) (simple (truth b ∷ [])) (printed_bool b) (ap greatest_number (sym (expr.rolls-Bool b)) ∙ reaches (Expr-F.Bool b)) (truth_writable b, tt)
  where
    truth_writable : (b : Truth) → IsWritable (truth b)
    truth_writable true = tt
    truth_writable false = tt

str_fine : (text : List ℕ) → HasNoZero text → Fine (expr.Str text)
str_fine text no_zero = plain (expr.Str text) (simple (string text ∷ [])) (printed_str text) (ap greatest_number (sym (expr.rolls-Str text)) ∙ reaches (Expr-F.Str text)) (no_zero, tt)

moment_fine : (text : List ℕ) → HasNoZero text → Fine (expr.Moment text)
moment_fine text no_zero = plain (expr.Moment text) (simple (word words.Timestamptz ∷ string text ∷ [])) (printed_moment text)
    (ap greatest_number (sym (expr.rolls-Moment text)) ∙ reaches (Expr-F.Moment text)) (tt, (no_zero, tt))

param_fine : (n : ℕ) → 1 ≤ n → n < 2 ^ 64 → Fine (expr.Param n)
param_fine n least most = plain (expr.Param n) (simple (param n ∷ [])) (printed_param n) (ap greatest_number (sym (expr.rolls-Param n)) ∙ reaches (Expr-F.Param n)) ((least, most), tt)

column_fine : (called : List ℕ) → IsWritable (name called) → Fine (expr.Column None called)
column_fine called named = plain (expr.Column None called) (simple (name called ∷ [])) (printed_column None called)
    (ap greatest_number (sym (expr.rolls-Column None called)) ∙ reaches (Expr-F.Column None called)) (named, tt)

current_fine : Fine expr.CurrentTimestamp
current_fine = plain expr.CurrentTimestamp (simple (word words.CurrentTimestamp ∷ [])) printed_current
    (ap greatest_number (sym expr.rolls-CurrentTimestamp) ∙ reaches Expr-F.CurrentTimestamp) (tt, tt)

now_fine : Fine expr.Now
now_fine = plain expr.Now (simple (call (codes "now"))) printed_now (ap greatest_number (sym expr.rolls-Now) ∙ reaches Expr-F.Now)
    ((refl, leb-true (length (codes "now")) 63 refl), (tt, (tt, tt)))

transaction_fine : Fine expr.TransactionTimestamp
transaction_fine = plain expr.TransactionTimestamp (simple (call (codes "transaction_timestamp"))) printed_transaction
    (ap greatest_number (sym expr.rolls-TransactionTimestamp) ∙ reaches Expr-F.TransactionTimestamp) ((refl, leb-true (length (codes "transaction_timestamp")) 63 refl), (tt, (tt, tt)))

-- ---- values

number_fine : (n : ℤ) → fits_int8 n ≡ true → Fine (number n)
number_fine (pos k) fits = let few = wide k fits in subst Fine (sym (number_pos k)) (natural k (omega (arith, few)))
number_fine (negsuc k) fits = by_least (k == 9223372036854775807) refl
  where
    by_least : (b : Truth) → (k == 9223372036854775807) ≡ b → Fine (number (negsuc k))
    by_least true same =
        let last : k ≡ 9223372036854775807 = eqb-true k 9223372036854775807 same in
        subst Fine (sym (number_least k (omega (arith, last)))) (subst (λ (m : ℕ). Fine (expr.Int (negsuc m))) (sym last) least_fine)
    by_least false same =
        let few = strictly k 9223372036854775807 (wide_below k fits) (eqb-false k 9223372036854775807 same) in
        subst Fine (sym (number_negative k few)) (minus_fine (expr.Int (pos (suc k))) (natural (suc k) (omega (arith, few))))

part_fine : (b : Truth) (n : ℤ) → fits_int8 n ≡ true → Fine (if b then widened n else number n)
part_fine true n fits =
    sum_fine (number n) (summand false (expr.Int (pos 2147483648)) ∷ summand true (expr.Int (pos 2147483648)) ∷ []) (number_fine n fits)
    (natural 2147483648 (omega arith), (natural 2147483648 (omega arith), tt))
part_fine false n fits = number_fine n fits

negated_fine : (b : Truth) (n : ℤ) → is_least_int4 n ≡ b → fits_int8 n ≡ true → Fine (if b then expr.Sum (expr.Int n) (summand false (expr.Int (pos 0)) ∷ []) else int8_part n)
negated_fine true (pos k) is fits =
    let few = wide k fits in
    sum_fine (expr.Int (pos k)) (summand false (expr.Int (pos 0)) ∷ []) (natural k (omega (arith, few))) (natural 0 (omega arith), tt)
negated_fine true (negsuc k) is fits = absurd (let f : false ≡ true = is in cc)
negated_fine false n is fits = part_fine (fits_int4 n) n fits

-- at each place
abbrev pub AllFine : Spelling → Type 0
AllFine s = Fine s.part × Fine s.negated × Fine s.whole

one_way : (x : Expr) → Fine x → AllFine (always x)
one_way x fine = (fine, fine, fine)

some_byte : (b : ℕ) → is_some_byte b ≡ true → 0 < b
some_byte zero is = absurd (let f : false ≡ true = is in cc)
some_byte (suc b) is = omega arith

pub no_zero_bytes : (text : List ℕ) → has_no_zero text ≡ true → HasNoZero text
no_zero_bytes [] is = tt
no_zero_bytes (b ∷ text) is = let both = both_of (is_some_byte b) (has_no_zero text) is in (some_byte b both.0, no_zero_bytes text both.1)

some_bytes : (text : List ℕ) → All (λ b. b ≢ 0) text → HasNoZero text
some_bytes [] all = tt
some_bytes (zero ∷ text) all = absurd (all zero zero (omega arith) refl)
some_bytes (suc b ∷ text) all = (omega arith, some_bytes text (λ k d below. all (suc k) d (omega (arith, below))))

moment_bytes : (m : ℤ) → is_moment m ≡ true → HasNoZero (moment_text m)
moment_bytes m is = some_bytes (moment_text m) (moment_again m (moment_within m is)).0.1

value_fine : (k : ColType) (v : Value) → is_value k v ≡ true → is_held v ≡ true → AllFine (spelled_value v)
value_fine k value.Null is held = one_way expr.Null null_fine
value_fine k (value.Bool b) is held = one_way (expr.Bool b) (bool_fine b)
value_fine k (value.Int4 n) is held = one_way (number n) (number_fine n (int4_fits n held))
value_fine k (value.Int8 n) is held = (part_fine (fits_int4 n) n held, negated_fine (is_least_int4 n) n refl held, number_fine n held)
value_fine k (value.Text text) is held = one_way (expr.Str text) (str_fine text (no_zero_bytes text (both_of (same_kind k kind.Text) (has_no_zero text) is).1))
value_fine k (value.Moment m) is held = one_way (expr.Moment (moment_text m)) (moment_fine (moment_text m) (moment_bytes m (both_of (same_kind k kind.Moment) (is_moment m) is).1))

-- ---- expressions

module _ (columns : List ColumnDef) (kinds : List ColType) (named : (n : ℕ) (c : ColumnDef) → slice_get columns n ≡ Some c → IsWritable (name c.name)) where
  abbrev names : Names
  names = around columns kinds

  abbrev GoodExpr : TypedExpr → Type 0
  GoodExpr e = is_held_expr e ≡ true → is_sound names e ≡ true → AllFine (spelling columns e)

  abbrev GoodForm : TypedForm → Type 0
  GoodForm f = (e : TypedExpr) → e.form ≡ f → form_held f ≡ true → (form_in names f).gives e.kind ≡ true → (form_in names f).fits ≡ true → AllFine (spelling columns e)

  alike : (e : TypedExpr) (x : Expr) → spelling columns e ≡ always x → Fine x → AllFine (spelling columns e)
  alike e x is fine = subst AllFine (sym is) (one_way x fine)

  stood : (t : Takes) (e : TypedExpr) → GoodExpr e → is_held_expr e ≡ true → stands names t e ≡ true → AllFine (spelling columns e)
  stood t e good well is = good well (both_of (takes_kind t e.kind) (is_sound names e) is).1

  module _ {X Y Z W : Type 0} (f_of : X → TypedForm) (e_of : Y → TypedExpr) (p_of : Z → TypedProductPart) (s_of : W → TypedSumPart)
      (ey : (y : Y) → GoodExpr (e_of y)) (pz : (z : Z) → GoodExpr (p_of z).part) (sw : (w : W) → GoodExpr (s_of w).part) where
    parts : (t : Takes) (ys : List Y) → list_all (λ part. part) (map is_held_expr (map e_of ys)) ≡ true → list_all (stands names t) (map e_of ys) ≡ true
        → Each Fine (map (spelled columns) (map e_of ys))
    parts t [] well is = tt
    parts t (y ∷ ys) well is =
        let all = both_of (is_held_expr (e_of y)) (list_all (λ part. part) (map is_held_expr (map e_of ys))) well in
        let both = both_of (stands names t (e_of y)) (list_all (stands names t) (map e_of ys)) is in
        ((stood t (e_of y) (ey y) all.0 both.0).0, parts t ys all.1 both.1)

    summands : (ws : List W) → list_all (λ part. part) (map summand_held (map s_of ws)) ≡ true → list_all (λ s. stands names Whole s.part) (map s_of ws) ≡ true
        → Each (λ s. Fine s.part) (map (spelled_summand columns) (map s_of ws))
    summands [] well is = tt
    summands (w ∷ ws) well is =
        let all = both_of (summand_held (s_of w)) (list_all (λ part. part) (map summand_held (map s_of ws))) well in
        let both = both_of (stands names Whole (s_of w).part) (list_all (λ (s : TypedSumPart). stands names Whole s.part) (map s_of ws)) is in
        ((stood Whole (s_of w).part (sw w) (sym (summand_by (s_of w)) ∙ all.0) both.0).0, summands ws all.1 both.1)

    factors : (zs : List Z) → list_all (λ part. part) (map factor_held (map p_of zs)) ≡ true → list_all (λ f. stands names Whole f.part) (map p_of zs) ≡ true
        → Each (λ f. Fine f.part) (map (spelled_factor columns) (map p_of zs))
    factors [] well is = tt
    factors (z ∷ zs) well is =
        let all = both_of (factor_held (p_of z)) (list_all (λ part. part) (map factor_held (map p_of zs))) well in
        let both = both_of (stands names Whole (p_of z).part) (list_all (λ (f : TypedProductPart). stands names Whole f.part) (map p_of zs)) is in
        ((stood Whole (p_of z).part (pz z) (sym (factor_by (p_of z)) ∙ all.0) both.0).0, factors zs all.1 both.1)

    abbrev layer : TypedForm-F X Y Z W → TypedForm-F TypedForm TypedExpr TypedProductPart TypedSumPart
    layer d = map-TypedForm X Y Z W TypedForm TypedExpr TypedProductPart TypedSumPart f_of e_of p_of s_of d

    abbrev Holds : TypedForm-F X Y Z W → Type 0
    Holds d = (e : TypedExpr) → e.form ≡ roll-TypedForm (layer d)
        → held_layer (map-TypedForm TypedForm TypedExpr TypedProductPart TypedSumPart Truth Truth Truth Truth form_held is_held_expr factor_held summand_held (layer d)) ≡ true
        → (form_in names (roll-TypedForm (layer d))).gives e.kind ≡ true → (form_in names (roll-TypedForm (layer d))).fits ≡ true → AllFine (spelling columns e)

    or_holds : (ys : List Y) → Holds (TypedForm-F.Or ys)
    or_holds ys e is well gives fits =
        let es = map e_of ys in
        let both = both_of (has_two es) (list_all (stands names (Like kind.Bool)) es) (sym (fits_or names (roll-TypedForm (TypedForm-F.Or es)) es (form.rolls-Or es)) ∙ fits) in
        alike e (expr.Or (map (spelled columns) es)) (or_is columns e es (is ∙ form.rolls-Or es)) (or_fine (map (spelled columns) es) (parts (Like kind.Bool) ys well both.1))

    and_holds : (ys : List Y) → Holds (TypedForm-F.And ys)
    and_holds ys e is well gives fits =
        let es = map e_of ys in
        let both = both_of (has_two es) (list_all (stands names (Like kind.Bool)) es) (sym (fits_and names (roll-TypedForm (TypedForm-F.And es)) es (form.rolls-And es)) ∙ fits) in
        alike e (expr.And (map (spelled columns) es)) (and_is columns e es (is ∙ form.rolls-And es)) (and_fine (map (spelled columns) es) (parts (Like kind.Bool) ys well both.1))

    concat_holds : (ys : List Y) → Holds (TypedForm-F.Concat ys)
    concat_holds ys e is well gives fits =
        let es = map e_of ys in
        let both = both_of (has_two es) (list_all (stands names (Like kind.Text)) es) (sym (fits_concat names (roll-TypedForm (TypedForm-F.Concat es)) es (form.rolls-Concat es)) ∙ fits) in
        alike e (expr.Concat (map (spelled columns) es)) (concat_is columns e es (is ∙ form.rolls-Concat es)) (concat_fine (map (spelled columns) es) (parts (Like kind.Text) ys well both.1))

    not_holds : (y : Y) → Holds (TypedForm-F.Not y)
    not_holds y e is well gives fits =
        let a = e_of y in
        alike e (expr.Not (spelled columns a)) (not_is columns e a (is ∙ form.rolls-Not a))
        (not_fine (spelled columns a) (stood (Like kind.Bool) a (ey y) well (sym (fits_not names (roll-TypedForm (TypedForm-F.Not a)) a (form.rolls-Not a)) ∙ fits)).0)

    is_null_holds : (y : Y) (tests : List Truth) → Holds (TypedForm-F.IsNull y tests)
    is_null_holds y tests e is well gives fits =
        let a = e_of y in
        let both = both_of (has_one tests) (stands names Any a) (sym (fits_is_null names (roll-TypedForm (TypedForm-F.IsNull a tests)) a tests (form.rolls-IsNull a tests)) ∙ fits) in
        alike e (expr.IsNull (spelled columns a) tests) (is_null_is columns e a tests (is ∙ form.rolls-IsNull a tests)) (is_null_fine (spelled columns a) tests (stood Any a (ey y) well both.1).0)

    compare_holds : (how : Comparison) (y z : Y) → Holds (TypedForm-F.Compare how y z)
    compare_holds how y z e is well gives fits =
        let a = e_of y in
        let b = e_of z in
        let eq = form.rolls-Compare how a b in
        let all = both_of (is_held_expr a) (is_held_expr b) well in
        let both = both_of (stands names Any a) (stands names (Like a.kind) b) (sym (fits_compare names (roll-TypedForm (TypedForm-F.Compare how a b)) how a b eq) ∙ fits) in
        alike e (expr.Compare how (spelled columns a) (spelled columns b)) (compare_is columns e how a b (is ∙ eq))
        (compare_fine how (spelled columns a) (spelled columns b) (stood Any a (ey y) all.0 both.0).0 (stood (Like a.kind) b (ey z) all.1 both.1).0)

    member_holds : (y : Y) (negated : Truth) (ys : List Y) → Holds (TypedForm-F.Member y negated ys)
    member_holds y negated ys e is well gives fits =
        let a = e_of y in
        let es = map e_of ys in
        let eq = form.rolls-Member a negated es in
        let all = both_of (is_held_expr a) (list_all (λ part. part) (map is_held_expr es)) well in
        let both = both_of (stands names Any a) (has_one es && list_all (stands names (Like a.kind)) es) (sym (fits_member names (roll-TypedForm (TypedForm-F.Member a negated es)) a negated es eq) ∙ fits) in
        let entries = both_of (has_one es) (list_all (stands names (Like a.kind)) es) both.1 in
        alike e (expr.Member (spelled columns a) negated (map (spelled columns) es)) (member_is columns e a negated es (is ∙ eq))
        (member_fine (spelled columns a) negated (map (spelled columns) es) (stood Any a (ey y) all.0 both.0).0 (parts (Like a.kind) ys all.1 entries.1))

    sum_holds : (y : Y) (ws : List W) → Holds (TypedForm-F.Sum y ws)
    sum_holds y ws e is well gives fits =
        let a = e_of y in
        let ss = map s_of ws in
        let eq = form.rolls-Sum a ss in
        let all = both_of (is_held_expr a) (list_all (λ part. part) (map summand_held ss)) well in
        let both = both_of (stands names Whole a) (has_one ss && list_all (λ (s : TypedSumPart). stands names Whole s.part) ss) (sym (fits_sum names (roll-TypedForm (TypedForm-F.Sum a ss)) a ss eq) ∙ fits) in
        let rest = both_of (has_one ss) (list_all (λ (s : TypedSumPart). stands names Whole s.part) ss) both.1 in
        alike e (expr.Sum (spelled columns a) (map (spelled_summand columns) ss)) (sum_is columns e a ss (is ∙ eq))
        (sum_fine (spelled columns a) (map (spelled_summand columns) ss) (stood Whole a (ey y) all.0 both.0).0 (summands ws all.1 rest.1))

    product_holds : (y : Y) (zs : List Z) → Holds (TypedForm-F.Product y zs)
    product_holds y zs e is well gives fits =
        let a = e_of y in
        let fs = map p_of zs in
        let eq = form.rolls-Product a fs in
        let all = both_of (is_held_expr a) (list_all (λ part. part) (map factor_held fs)) well in
        let both = both_of (stands names Whole a) (has_one fs && list_all (λ (f : TypedProductPart). stands names Whole f.part) fs) (sym (fits_product names (roll-TypedForm (TypedForm-F.Product a fs)) a fs eq) ∙ fits) in
        let rest = both_of (has_one fs) (list_all (λ (f : TypedProductPart). stands names Whole f.part) fs) both.1 in
        alike e (expr.Product (spelled columns a) (map (spelled_factor columns) fs)) (product_is columns e a fs (is ∙ eq))
        (product_fine (spelled columns a) (map (spelled_factor columns) fs) (stood Whole a (ey y) all.0 both.0).0 (factors zs all.1 rest.1))

    minus_holds : (y : Y) → Holds (TypedForm-F.Minus y)
    minus_holds y e is well gives fits =
        let a = e_of y in
        let eq = form.rolls-Minus a in
        alike e (expr.Minus (spelled_negated columns a)) (minus_is columns e a (is ∙ eq))
        (minus_fine (spelled_negated columns a) (stood Whole a (ey y) well (sym (fits_minus names (roll-TypedForm (TypedForm-F.Minus a)) a eq) ∙ fits)).1)

    literal_holds : (v : Value) → Holds (TypedForm-F.Literal v)
    literal_holds v e is well gives fits =
        subst AllFine (sym (literal_is columns e v (is ∙ form.rolls-Literal v)))
        (value_fine e.kind v (sym (gives_literal names (roll-TypedForm (TypedForm-F.Literal v)) e.kind v (form.rolls-Literal v)) ∙ gives) well)

    above_zero : (n : ℕ) (k : ColType) → is_parameter kinds n k ≡ true → 1 ≤ n
    above_zero zero k is = absurd (let f : false ≡ true = is in cc)
    above_zero (suc n) k is = omega arith

    param_holds : (n : ℕ) → Holds (TypedForm-F.Param n)
    param_holds n e is well gives fits =
        let least = above_zero n e.kind (sym (gives_param names (roll-TypedForm (TypedForm-F.Param n)) e.kind n (form.rolls-Param n)) ∙ gives) in
        let most = ltb-true n 4294967296 well in
        alike e (expr.Param n) (param_is columns e n (is ∙ form.rolls-Param n)) (param_fine n least (omega (arith, most)))

    column_holds : (n : ℕ) → Holds (TypedForm-F.Column n)
    column_holds n e is well gives fits =
        by_column (slice_get columns n) refl (sym (gives_column names (roll-TypedForm (TypedForm-F.Column n)) e.kind n (form.rolls-Column n)) ∙ gives)
      where
        by_column : (o : Option ColumnDef) → slice_get columns n ≡ o → has_column e.kind o ≡ true → AllFine (spelling columns e)
        by_column None at there = absurd (let f : false ≡ true = there in cc)
        by_column (Some c) at there =
            alike e (expr.Column None c.name)
            (column_is columns e n (is ∙ form.rolls-Column n) ∙ ap (λ (o : Option ColumnDef). always (expr.Column None (column_name o))) at)
            (column_fine c.name (named n c at))

    holds : (d : TypedForm-F X Y Z W) → Holds d
    holds (TypedForm-F.Or ys) = or_holds ys
    holds (TypedForm-F.And ys) = and_holds ys
    holds (TypedForm-F.Not y) = not_holds y
    holds (TypedForm-F.IsNull y tests) = is_null_holds y tests
    holds (TypedForm-F.Compare how y z) = compare_holds how y z
    holds (TypedForm-F.Member y negated ys) = member_holds y negated ys
    holds (TypedForm-F.Concat ys) = concat_holds ys
    holds (TypedForm-F.Sum y ws) = sum_holds y ws
    holds (TypedForm-F.Product y zs) = product_holds y zs
    holds (TypedForm-F.Minus y) = minus_holds y
    holds (TypedForm-F.Literal v) = literal_holds v
    holds (TypedForm-F.Param n) = param_holds n
    holds (TypedForm-F.Column n) = column_holds n
    holds TypedForm-F.CurrentTimestamp = λ e is well gives fits. alike e expr.CurrentTimestamp (current_is columns e (is ∙ form.rolls-CurrentTimestamp)) current_fine
    holds TypedForm-F.Now = λ e is well gives fits. alike e expr.Now (now_is columns e (is ∙ form.rolls-Now)) now_fine
    holds TypedForm-F.TransactionTimestamp = λ e is well gives fits. alike e expr.TransactionTimestamp (transaction_is columns e (is ∙ form.rolls-TransactionTimestamp)) transaction_fine

    form_good : (d : TypedForm-F X Y Z W) → GoodForm (roll-TypedForm (layer d))
    form_good d e is well gives fits = holds d e is (sym (held_at (layer d)) ∙ well) gives fits

  expr_good : (e : TypedExpr) → GoodForm e.form → GoodExpr e
  expr_good e good well sound =
      let both = both_of ((form_in names e.form).gives e.kind) (form_in names e.form).fits (sym (sound_by_form names e) ∙ sound) in
      good e refl (sym (held_by_form e) ∙ well) both.0 both.1

  -- every expression
  pub fine : (e : TypedExpr) → GoodExpr e
  fine = ind-TypedExpr GoodForm GoodExpr (λ f. GoodExpr f.part) (λ s. GoodExpr s.part)
      (λ x y is. subst (λ (z : TypedForm-F TypedForm TypedExpr TypedProductPart TypedSumPart). GoodForm (roll-TypedForm z)) is
      (form_good (λ f. f.0) (λ e. e.0) (λ p. p.0) (λ s. s.0) (λ e. e.1) (λ p. p.1) (λ s. s.1) y))
      (λ x y is. expr_good _ (subst (λ (z : TypedExpr-F TypedForm TypedExpr TypedProductPart TypedSumPart). GoodForm z.form) is y.form.1))
      (λ x y is. subst (λ (z : TypedProductPart-F TypedForm TypedExpr TypedProductPart TypedSumPart). GoodExpr z.part) is y.part.1)
      (λ x y is. subst (λ (z : TypedSumPart-F TypedForm TypedExpr TypedProductPart TypedSumPart). GoodExpr z.part) is y.part.1)
