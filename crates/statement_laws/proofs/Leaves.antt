-- Values, parameters and columns are said by their spellings.
use Rattle.std.proofs.Common.{◌≡◌, ◌∙◌, ◌⊎◌, inl, inr, ℕ, suc, ◌<◌, ◌≤◌, ℤ, pos, negsuc, neg_ℤ, List, [], refl, ap, sym, subst, arith}
use Rattle.std.specs.Prelude.{◌==◌, T, FitsSigned, Bool as Truth, true, false, Option, Some, None, Ok, Err, if◌then◌else◌, unwrap_or}
use Rattle.std.specs.Int.{w64}
use Rattle.std.specs.Int.Signed.{le_z, le_z_yes}
use Rattle.std.proofs.Math.Facts.{leb_yes}
use Rattle.std.proofs.lemmas.Bool.{eqb-true, eqb-false}
use Rattle.std.proofs.lemmas.Option.{none-some}
use Rattle.pg_values.specs.declared.col_type.ColType.{ColType}
use Rattle.pg_values.specs.declared.col_type.ColType.TheVariants as kind
use Rattle.pg_values.specs.declared.value.Value.{Value}
use Rattle.pg_values.specs.declared.value.Value.TheVariants as value
use Rattle.pg_values.specs.Answers.{ReadsText, RefusesText}
use Rattle.pg_values.specs.Range.{IsMoment}
use Rattle.pg_values.proofs.Exactness.{reads_once, reads_never}
use Rattle.pg_values.proofs.RoundTrip.{text_again}
use Rattle.schema.specs.declared.catalogue.ColumnDef.{ColumnDef}
use Rattle.sql_tree.specs.declared.expr.Expr.{Expr}
use Rattle.sql_tree.specs.declared.expr.Expr.TheOpen.{Expr-F}
use Rattle.sql_tree.specs.declared.expr.Expr.TheVariants as expr
use Rattle.typed_sql.specs.declared.typed.TypedExpr.{TypedExpr}
use Rattle.typed_sql.specs.declared.typed.TypedForm.TheVariants as form
use Rattle.typed_sql.specs.Places.{are_alike, is_whole, number_kind}
use Rattle.typed_sql.specs.Own.{Own, Scope, column_meant, is_least_int4, joined_kind, kind_meant, own}
use Rattle.typed_sql.specs.Steps.{Known, Answer, Gives, Told, fault, known_kind}
use Rattle.typed_sql.specs.Typing.{Negative, Parameter, String, Typed, column_expr, literal, moment, number_of, parameter_of, typed}
use Rattle.typed_sql.proofs.Layers.{out_bool, out_column, out_current, out_int, out_minus, out_moment, out_now, out_null, out_param, out_str, out_transaction}
use Rattle.typed_sql.proofs.OwnForms.{own_minus}
use Rattle.sql_values.specs.Arithmetic.{negative}
use Rattle.sql_values.specs.Meaning.{value_in}
use Rattle.sql_values.specs.Outcome.{Outcome, behind}
use Rattle.checked_sql.specs.Sound.{is_moment}
use Rattle.checked_print.specs.Moments.{moment_text}
use Rattle.checked_print.specs.Spelled.{fits_int4, number}
use Rattle.checked_print.proofs.Dates.{text_printed}
use Rattle.checked_print.specs.Ranges.{fits_int8}
use Rattle.statement_laws.proofs.Claims.{Again, Said, SameValue, formed, leaf_formed, number_place, said_as}
use Rattle.statement_laws.proofs.Alike.{alike_refl, wholes_alike}
use Rattle.statement_laws.proofs.Nodes.{IsNegated, minus_said}
use Rattle.statement_laws.proofs.Numbers.{both_of, fits_negative, great, great_below, int4_is, int8_is, kind_int4, kind_int8, least_not, number_least, number_negative, number_pos, small, small_below, strictly, wide_below}
use Rattle.statement_laws.proofs.Own.{own_bool, own_column, own_current, own_int, own_moment, own_now, own_null, own_param, own_str, own_transaction}
use Rattle.statement_laws.proofs.Sure.{Gave, Sure, gives, made, told}
use Rattle.statement_laws.proofs.Values.{at_column, at_current, at_literal, at_minus, at_now, at_param, at_transaction}

-- literals of one value come to the same
literals_same : (e : TypedExpr) (k : ColType) (v : Value) → e.form ≡ form.Literal v → SameValue e (literal k v)
literals_same e k v is around = at_literal around (literal k v) v refl ∙ sym (at_literal around e v is)

pub moment_within : (m : ℤ) → is_moment m ≡ true → IsMoment m
moment_within m is =
    let both = both_of (le_z (neg_ℤ (pos 63_082_281_600_000_000)) m) (le_z m (pos 252_455_615_999_999_999)) is in
    (le_z_yes (subst T (sym both.0) tt), le_z_yes (subst T (sym both.1) tt))

moment_fits : (m : ℤ) → IsMoment m → FitsSigned w64 m
moment_fits (pos n) within = let h : n ≤ 252455615999999999 = leb_yes (within.1).le in record { sfits = omega (arith, h) }
moment_fits (negsuc n) within = let h : n ≤ 63082281599999999 = leb_yes (within.0).le in record { sfits = omega (arith, h) }

pub moment_again : (m : ℤ) → IsMoment m → ReadsText kind.Moment (moment_text m) (value.Moment m)
moment_again m within = text_again kind.Moment (value.Moment m) (moment_text m) (moment_fits m within) within (moment_text m, refl, text_printed m within)

module _ (scope : Scope) (known : Known) where
  pub null_said : (e : TypedExpr) → e.form ≡ form.Literal value.Null → Said scope known e expr.Null
  null_said e is =
      leaf_formed scope known e expr.Null Expr-F.Null (ap (λ (o : Own). o.kind) (own_null scope known)) out_null
      (λ leaf text. gives (Again (λ j. j ≡ leaf) e) known (literal leaf value.Null) (refl, literals_same e leaf value.Null is))

  pub text_said : (e : TypedExpr) (text : List ℕ) → e.form ≡ form.Literal (value.Text text) → e.kind ≡ kind.Text → Said scope known e (expr.Str text)
  text_said e text is of =
      leaf_formed scope known e (expr.Str text) (Expr-F.Str text) (ap (λ (o : Own). o.kind) (own_str scope known text)) (out_str text)
      (λ leaf asks. subst (λ (l : ColType). Sure (Again (λ j. j ≡ l) e) known (String l text)) (sym (asks of))
      (gives (Again (λ j. j ≡ kind.Text) e) known (literal kind.Text (value.Text text)) (refl, literals_same e kind.Text (value.Text text) is)))

  pub bool_said : (e : TypedExpr) (b : Truth) → e.form ≡ form.Literal (value.Bool b) → e.kind ≡ kind.Bool → Said scope known e (expr.Bool b)
  bool_said e b is of =
      formed scope known e (expr.Bool b) (Expr-F.Bool b) kind.Bool (ap (λ (o : Own). o.kind) (own_bool scope known b)) (out_bool b) (ap (λ (k : ColType). are_alike k kind.Bool) of)
      (λ leaf. gives (Again (λ j. are_alike kind.Bool j ≡ true) e) known (literal kind.Bool (value.Bool b)) (refl, literals_same e kind.Bool (value.Bool b) is))

  -- ---- moments

  moment_sure : (e : TypedExpr) (m : ℤ) → e.form ≡ form.Literal (value.Moment m) → IsMoment m → (answer : Answer TypedExpr)
      → ((read : Value) × ReadsText kind.Moment (moment_text m) read × (answer ≡ Ok (literal kind.Moment read, known)))
      ⊎ ((code : List ℕ) × RefusesText kind.Moment (moment_text m) code × (answer ≡ Err (fault code [])))
      → Gave (Again (λ j. are_alike kind.Moment j ≡ true) e) known answer
  moment_sure e m is within answer (inl x) =
      let same : x.0 ≡ value.Moment m = reads_once kind.Moment (moment_text m) x.0 (value.Moment m) x.1 (moment_again m within) in (
        literal kind.Moment x.0,
        x.2,
        (
          refl,
          λ around.
              at_literal around (literal kind.Moment x.0) x.0 refl ∙ (ap (λ (v : Value). Ok v) same ∙ sym (at_literal around e (value.Moment m) is)),
        ),
      )
  moment_sure e m is within answer (inr x) = absurd (reads_never kind.Moment (moment_text m) (value.Moment m) x.0 (moment_again m within) x.1)

  pub moment_said : (e : TypedExpr) (m : ℤ) → e.form ≡ form.Literal (value.Moment m) → e.kind ≡ kind.Moment → is_moment m ≡ true → Said scope known e (expr.Moment (moment_text m))
  moment_said e m is of within =
      formed scope known e (expr.Moment (moment_text m)) (Expr-F.Moment (moment_text m)) kind.Moment
      (ap (λ (o : Own). o.kind) (own_moment scope known (moment_text m))) (out_moment (moment_text m)) (ap (λ (k : ColType). are_alike k kind.Moment) of)
      (λ leaf answer took. moment_sure e m is (moment_within m within) answer took)

  pub current_said : (e : TypedExpr) → e.form ≡ form.CurrentTimestamp → e.kind ≡ kind.Moment → Said scope known e expr.CurrentTimestamp
  current_said e is of =
      formed scope known e expr.CurrentTimestamp Expr-F.CurrentTimestamp kind.Moment (ap (λ (o : Own). o.kind) (own_current scope known)) out_current (ap (λ (k : ColType). are_alike k kind.Moment) of)
      (λ leaf. gives (Again (λ j. are_alike kind.Moment j ≡ true) e) known (moment form.CurrentTimestamp)
      (refl, λ around. at_current around (moment form.CurrentTimestamp) refl ∙ sym (at_current around e is)))

  pub now_said : (e : TypedExpr) → e.form ≡ form.Now → e.kind ≡ kind.Moment → Said scope known e expr.Now
  now_said e is of =
      formed scope known e expr.Now Expr-F.Now kind.Moment (ap (λ (o : Own). o.kind) (own_now scope known)) out_now (ap (λ (k : ColType). are_alike k kind.Moment) of)
      (λ leaf. gives (Again (λ j. are_alike kind.Moment j ≡ true) e) known (moment form.Now)
      (refl, λ around. at_now around (moment form.Now) refl ∙ sym (at_now around e is)))

  pub transaction_said : (e : TypedExpr) → e.form ≡ form.TransactionTimestamp → e.kind ≡ kind.Moment → Said scope known e expr.TransactionTimestamp
  transaction_said e is of =
      formed scope known e expr.TransactionTimestamp Expr-F.TransactionTimestamp kind.Moment (ap (λ (o : Own). o.kind) (own_transaction scope known)) out_transaction (ap (λ (k : ColType). are_alike k kind.Moment) of)
      (λ leaf. gives (Again (λ j. are_alike kind.Moment j ≡ true) e) known (moment form.TransactionTimestamp)
      (refl, λ around. at_transaction around (moment form.TransactionTimestamp) refl ∙ sym (at_transaction around e is)))

  -- ---- parameters and columns

  -- a parameter has the type that is known of it
  parameter_sure : (e : TypedExpr) (n : ℕ) (k leaf : ColType) → e.form ≡ form.Param n → (o : Option ColType) → o ≡ Some k → (answer : Answer TypedExpr) → parameter_of leaf n o known answer
      → (y : TypedExpr) × (answer ≡ Ok (y, known)) × Again (λ j. are_alike k j ≡ true) e y
  parameter_sure e n k leaf is None none answer took = absurd (none-some k none)
  parameter_sure e n k leaf is (Some j) same answer took =
      (typed j (form.Param n), took, (kinds_of, λ around. at_param around (typed j (form.Param n)) n refl ∙ sym (at_param around e n is)))
    where
      some_is : {a b : ColType} → Some a ≡ Some b → a ≡ b
      some_is {a} {b} eq = ap (λ (x : Option ColType). unwrap_or x a) eq

      kinds_of : are_alike k j ≡ true
      kinds_of = ap (are_alike k) (some_is same) ∙ alike_refl k

  pub param_said : (e : TypedExpr) (n : ℕ) → e.form ≡ form.Param n → scope.parameters ≡ true → known_kind n known ≡ Some e.kind → Said scope known e (expr.Param n)
  param_said e n is may there =
      formed scope known e (expr.Param n) (Expr-F.Param n) e.kind (ap (λ (o : Own). o.kind) (own_param scope known n) ∙ there) (out_param n) (alike_refl e.kind)
      (λ leaf. subst (λ (b : Truth). Sure (Again (λ j. are_alike e.kind j ≡ true) e) known (Parameter b leaf n)) (sym may)
      (λ answer took. parameter_sure e n e.kind leaf is (known_kind n known) there answer took))

  pub column_said : (e : TypedExpr) (n : ℕ) (c : ColumnDef) → e.form ≡ form.Column n → e.kind ≡ c.kind → column_meant scope None c.name ≡ Ok (n, c) → Said scope known e (expr.Column None c.name)
  column_said e n c is of meant =
      formed scope known e (expr.Column None c.name) (Expr-F.Column None c.name) c.kind
      (ap (λ (o : Own). o.kind) (own_column scope known None c.name) ∙ ap kind_meant meant) (out_column None c.name) (ap (λ (k : ColType). are_alike k c.kind) of ∙ alike_refl c.kind)
      (λ leaf. made (λ (x : ℕ × ColumnDef). x ≡ (n, c)) (Again (λ j. are_alike c.kind j ≡ true) e) known (Told (column_meant scope None c.name)) column_expr
      (told (λ (x : ℕ × ColumnDef). x ≡ (n, c)) known (column_meant scope None c.name) (n, c) meant refl)
      (λ x same. subst (λ (z : ℕ × ColumnDef). Again (λ j. are_alike c.kind j ≡ true) e (column_expr z)) (sym same)
      (alike_refl c.kind, λ around. at_column around (column_expr (n, c)) n refl ∙ sym (at_column around e n is))))

  -- ---- numbers

  -- a whole number by its digits alone
  int_said : (e : TypedExpr) (k : ColType) (n : ℤ) → number_kind n ≡ k → is_whole k ≡ true → (number_of k n).kind ≡ k → is_whole e.kind ≡ true → SameValue e (number_of k n) → Said scope known e (expr.Int n)
  int_said e k n is whole kinds of same =
      formed scope known e (expr.Int n) (Expr-F.Int n) k (ap (λ (o : Own). o.kind) (own_int scope known n) ∙ ap (λ (j : ColType). Some j) is) (out_int n) (wholes_alike e.kind k of whole)
      (λ leaf. subst (λ (j : ColType). Sure (Again (λ i. are_alike k i ≡ true) e) known (Gives (number_of j n))) (sym is)
      (gives (Again (λ i. are_alike k i ≡ true) e) known (number_of k n) (ap (are_alike k) kinds ∙ alike_refl k, same)))

  pub int_negated : (n : ℤ) → is_least_int4 n ≡ false → (own scope [] (expr.Int n)).least_int4 ≡ false
  int_negated n other = ap (λ (o : Own). o.least_int4) (own_int scope [] n) ∙ other

  -- behind a minus
  pub negated_by : (a : TypedExpr) (x : Expr) → (own scope [] x).least_int4 ≡ false → is_whole a.kind ≡ true → Said scope known a x → IsNegated scope known a x
  negated_by a x not of said = (not, number_place scope known None a x said of)

  -- a number with a minus in front of it, other than the least int4
  minus_int : (e : TypedExpr) (k : ColType) (v w : Value) (n : ℕ) → number_kind (pos n) ≡ k → is_whole k ≡ true → number_of k (pos n) ≡ literal k v → ¬ (n ≡ 2147483648)
      → is_whole e.kind ≡ true → e.form ≡ form.Literal w → negative v ≡ Ok w → Said scope known e (expr.Minus (expr.Int (pos n)))
  minus_int e k v w n is whole literal_of other of given calculates =
      let a = literal k v in
      let m = typed e.kind (form.Minus a) in
      let said = int_said a k (pos n) is whole (ap (λ (y : TypedExpr). y.kind) literal_of) whole
      (λ around. ap (value_in around) literal_of) in
      said_as scope known e m (expr.Minus (expr.Int (pos n))) refl
      (λ around. at_minus around m a refl ∙ (ap (λ (o : Outcome). behind o negative) (at_literal around a v refl) ∙ (calculates ∙ sym (at_literal around e w given))))
      (minus_said scope known m a (expr.Int (pos n)) refl of
      (negated_by a (expr.Int (pos n)) (int_negated (pos n) (least_not n other)) whole said))

  -- the least int4
  least_said : (e : TypedExpr) (n : ℕ) → n ≡ 2147483648 → is_whole e.kind ≡ true → e.form ≡ form.Literal (value.Int4 (neg_ℤ (pos n))) → Said scope known e (expr.Minus (expr.Int (pos n)))
  least_said e n is of given =
      let x = expr.Int (pos n) in
      let least : (own scope [] x).least_int4 ≡ true = ap (λ (o : Own). o.least_int4) (own_int scope [] (pos n)) ∙ ap (λ (k : ℕ). k == 2147483648) is in
      let least_known : (own scope known x).least_int4 ≡ true = ap (λ (o : Own). o.least_int4) (own_int scope known (pos n)) ∙ ap (λ (k : ℕ). k == 2147483648) is in
      formed scope known e (expr.Minus x) (Expr-F.Minus x) kind.Int4
      (ap (λ (o : Own). o.kind) (own_minus scope known x) ∙ ap (λ (b : Truth). Some (if b then kind.Int4 else joined_kind (own scope known x).kind None)) least_known)
      (out_minus x) (wholes_alike e.kind kind.Int4 of refl)
      (λ leaf. subst (λ (b : Truth). Sure (Again (λ i. are_alike kind.Int4 i ≡ true) e) known (Negative b (Typed scope) x)) (sym least)
      (gives (Again (λ i. are_alike kind.Int4 i ≡ true) e) known (literal kind.Int4 (value.Int4 (neg_ℤ (pos 2147483648)))) (
        refl,
        λ around. at_literal around (literal kind.Int4 (value.Int4 (neg_ℤ (pos 2147483648)))) (value.Int4 (neg_ℤ (pos 2147483648))) refl
            ∙ (ap (λ (k : ℕ). Ok (value.Int4 (neg_ℤ (pos k)))) (sym is) ∙ sym (at_literal around e (value.Int4 (neg_ℤ (pos n))) given)),
      )))

  pub minus_not_least : (x : Expr) → (own scope [] (expr.Minus x)).least_int4 ≡ false
  minus_not_least x = ap (λ (o : Own). o.least_int4) (own_minus scope [] x)

  -- an int4
  pub int4_said : (e : TypedExpr) (n : ℤ) → e.form ≡ form.Literal (value.Int4 n) → is_whole e.kind ≡ true → fits_int4 n ≡ true → Said scope known e (number n)
  int4_said e (pos k) is of fits =
      subst (Said scope known e) (sym (number_pos k))
      (int_said e kind.Int4 (pos k) (kind_int4 k (small k fits)) refl refl of (literals_same e kind.Int4 (value.Int4 (pos k)) is))
  int4_said e (negsuc k) is of fits =
      subst (Said scope known e) (sym (number_negative k (let few = small_below k fits in omega (arith, few)))) (by_least (suc k == 2147483648) refl)
    where
      by_least : (b : Truth) → (suc k == 2147483648) ≡ b → Said scope known e (expr.Minus (expr.Int (pos (suc k))))
      by_least true same = least_said e (suc k) (eqb-true (suc k) 2147483648 same) of is
      by_least false same =
          let few = small_below k fits in
          let other : ¬ (suc k ≡ 2147483648) = eqb-false (suc k) 2147483648 same in
          let below : suc k < 2147483648 = strictly (suc k) 2147483648 (omega (arith, few)) other in
          minus_int e kind.Int4 (value.Int4 (pos (suc k))) (value.Int4 (negsuc k)) (suc k) (kind_int4 (suc k) (omega (arith, below))) refl refl other of is (int4_is (negsuc k) fits)

  -- an int8 that is no int4
  pub int8_said : (e : TypedExpr) (n : ℤ) → e.form ≡ form.Literal (value.Int8 n) → is_whole e.kind ≡ true → fits_int4 n ≡ false → fits_int8 n ≡ true → Said scope known e (number n)
  int8_said e (pos k) is of beyond fits =
      subst (Said scope known e) (sym (number_pos k))
      (int_said e kind.Int8 (pos k) (kind_int8 k (great k beyond)) refl refl of (literals_same e kind.Int8 (value.Int8 (pos k)) is))
  int8_said e (negsuc k) is of beyond fits = by_least (k == 9223372036854775807) refl
    where
      by_least : (b : Truth) → (k == 9223372036854775807) ≡ b → Said scope known e (number (negsuc k))
      by_least true same =
          let last : k ≡ 9223372036854775807 = eqb-true k 9223372036854775807 same in
          subst (Said scope known e) (sym (number_least k (omega (arith, last))))
          (int_said e kind.Int8 (negsuc k) refl refl refl of (literals_same e kind.Int8 (value.Int8 (negsuc k)) is))
      by_least false same =
          let far = great_below k beyond in
          let few = wide_below k fits in
          let other : ¬ (k ≡ 9223372036854775807) = eqb-false k 9223372036854775807 same in
          let below : k < 9223372036854775807 = strictly k 9223372036854775807 few other in
          subst (Said scope known e) (sym (number_negative k below))
          (minus_int e kind.Int8 (value.Int8 (pos (suc k))) (value.Int8 (negsuc k)) (suc k) (kind_int8 (suc k) (omega (arith, far))) refl refl
          (λ same_as. let no : ⊥ = omega (arith, far, same_as) in no) of is (int8_is (negsuc k) (fits_negative k few)))
