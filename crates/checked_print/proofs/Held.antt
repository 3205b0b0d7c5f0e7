-- An expression whose parts have their numbers in the ranges of their types has its own so.
use Rattle.std.proofs.Common.{rules, ◌≡◌, ◌∙◌, ◌<◌, ◌^◌, ℕ, ℤ, pos, negsuc, List, [], ◌∷◌, map, refl, ap, sym, arith}
use Rattle.std.specs.Prelude.{◌&&◌, neg_ℤ, Bool as Truth, true, FitsSigned}
use Rattle.std.specs.Int.{w32, w64}
use Rattle.std.specs.Int.Signed.{le_z}
use Rattle.std.specs.List.{list_all}
use Rattle.std.proofs.lemmas.Bool.{le-leb, lt-ltb}
use Rattle.pg_values.specs.declared.value.Value.{Value}
use Rattle.pg_values.specs.declared.value.Value.TheVariants as value
use Rattle.sql_tree.specs.declared.expr.Comparison.{Comparison}
use Rattle.typed_sql.specs.declared.typed.TypedExpr.{TypedExpr}
use Rattle.typed_sql.specs.declared.typed.TypedForm.{TypedForm, roll-TypedForm, map-TypedForm, the_lemmas}
use Rattle.typed_sql.specs.declared.typed.TypedForm.TheOpen.{TypedForm-F}
use Rattle.typed_sql.specs.declared.typed.TypedForm.TheFolds.{fold-TypedForm, fold-TypedProductPart, fold-TypedSumPart, fold-roll-TypedForm}
use Rattle.typed_sql.specs.declared.typed.TypedForm.TheVariants as form
use Rattle.typed_sql.specs.declared.typed.TypedSumPart.{TypedSumPart}
use Rattle.typed_sql.specs.declared.typed.TypedProductPart.{TypedProductPart}
use Rattle.checked_print.specs.Ranges.{all, fits_int8, held_layer, is_held, is_held_expr}
use Rattle.checked_print.specs.Spelled.{fits_int4}

-- ---- folds

abbrev pub form_held : TypedForm → Truth
form_held = fold-TypedForm Truth Truth Truth Truth held_layer (λ e. e.form) (λ f. f.part) (λ s. s.part)

abbrev pub factor_held : TypedProductPart → Truth
factor_held = fold-TypedProductPart Truth Truth Truth Truth held_layer (λ e. e.form) (λ f. f.part) (λ s. s.part)

abbrev pub summand_held : TypedSumPart → Truth
summand_held = fold-TypedSumPart Truth Truth Truth Truth held_layer (λ e. e.form) (λ f. f.part) (λ s. s.part)

pub held_by_form : (e : TypedExpr) → is_held_expr e ≡ form_held e.form
held_by_form e = search (rules, the_lemmas)

pub factor_by : (f : TypedProductPart) → factor_held f ≡ is_held_expr f.part
factor_by f = search (rules, the_lemmas)

pub summand_by : (s : TypedSumPart) → summand_held s ≡ is_held_expr s.part
summand_by s = search (rules, the_lemmas)

abbrev Layer : Type 0
Layer = TypedForm-F TypedForm TypedExpr TypedProductPart TypedSumPart

pub held_at : (d : Layer) → form_held (roll-TypedForm d)
    ≡ held_layer (map-TypedForm TypedForm TypedExpr TypedProductPart TypedSumPart Truth Truth Truth Truth form_held is_held_expr factor_held summand_held d)
held_at d = fold-roll-TypedForm Truth Truth Truth Truth held_layer (λ e. e.form) (λ f. f.part) (λ s. s.part) d

by_layer : (e : TypedExpr) (f : TypedForm) (d : Layer) → e.form ≡ f → roll-TypedForm d ≡ f
    → held_layer (map-TypedForm TypedForm TypedExpr TypedProductPart TypedSumPart Truth Truth Truth Truth form_held is_held_expr factor_held summand_held d) ≡ true → is_held_expr e ≡ true
by_layer e f d is rolls held = held_by_form e ∙ (ap form_held (is ∙ sym rolls) ∙ (held_at d ∙ held))

both_true : (a b : Truth) → a ≡ true → b ≡ true → (a && b) ≡ true
both_true a b first second = ap (λ (x : Truth). x && b) first ∙ second

every : {A : Type 0} (test : A → Truth) (xs : List A) → all (map test xs) ≡ list_all test xs
every test [] = refl
every test (x ∷ xs) = ap (λ (b : Truth). test x && b) (every test xs)

summands_held : (ss : List TypedSumPart) → all (map summand_held ss) ≡ list_all (λ s. is_held_expr s.part) ss
summands_held [] = refl
summands_held (s ∷ ss) = ap (λ (b : Truth). b && all (map summand_held ss)) (summand_by s) ∙ ap (λ (b : Truth). is_held_expr s.part && b) (summands_held ss)

factors_held : (fs : List TypedProductPart) → all (map factor_held fs) ≡ list_all (λ f. is_held_expr f.part) fs
factors_held [] = refl
factors_held (f ∷ fs) = ap (λ (b : Truth). b && all (map factor_held fs)) (factor_by f) ∙ ap (λ (b : Truth). is_held_expr f.part && b) (factors_held fs)

-- ---- forms

pub held_or : (e : TypedExpr) (es : List TypedExpr) → e.form ≡ form.Or es → list_all is_held_expr es ≡ true → is_held_expr e ≡ true
held_or e es is held = by_layer e (form.Or es) (TypedForm-F.Or es) is (form.rolls-Or es) (every is_held_expr es ∙ held)

pub held_and : (e : TypedExpr) (es : List TypedExpr) → e.form ≡ form.And es → list_all is_held_expr es ≡ true → is_held_expr e ≡ true
held_and e es is held = by_layer e (form.And es) (TypedForm-F.And es) is (form.rolls-And es) (every is_held_expr es ∙ held)

pub held_concat : (e : TypedExpr) (es : List TypedExpr) → e.form ≡ form.Concat es → list_all is_held_expr es ≡ true → is_held_expr e ≡ true
held_concat e es is held = by_layer e (form.Concat es) (TypedForm-F.Concat es) is (form.rolls-Concat es) (every is_held_expr es ∙ held)

pub held_not : (e a : TypedExpr) → e.form ≡ form.Not a → is_held_expr a ≡ true → is_held_expr e ≡ true
held_not e a is held = by_layer e (form.Not a) (TypedForm-F.Not a) is (form.rolls-Not a) held

pub held_is_null : (e a : TypedExpr) (tests : List Truth) → e.form ≡ form.IsNull a tests → is_held_expr a ≡ true → is_held_expr e ≡ true
held_is_null e a tests is held = by_layer e (form.IsNull a tests) (TypedForm-F.IsNull a tests) is (form.rolls-IsNull a tests) held

pub held_compare : (e : TypedExpr) (how : Comparison) (a b : TypedExpr) → e.form ≡ form.Compare how a b → is_held_expr a ≡ true → is_held_expr b ≡ true → is_held_expr e ≡ true
held_compare e how a b is first second =
    by_layer e (form.Compare how a b) (TypedForm-F.Compare how a b) is (form.rolls-Compare how a b) (both_true (is_held_expr a) (is_held_expr b) first second)

pub held_member : (e a : TypedExpr) (negated : Truth) (es : List TypedExpr) → e.form ≡ form.Member a negated es → is_held_expr a ≡ true → list_all is_held_expr es ≡ true
    → is_held_expr e ≡ true
held_member e a negated es is first held =
    by_layer e (form.Member a negated es) (TypedForm-F.Member a negated es) is (form.rolls-Member a negated es) (both_true (is_held_expr a) (all (map is_held_expr es)) first (every is_held_expr es ∙ held))

pub held_sum : (e a : TypedExpr) (ss : List TypedSumPart) → e.form ≡ form.Sum a ss → is_held_expr a ≡ true → list_all (λ s. is_held_expr s.part) ss ≡ true → is_held_expr e ≡ true
held_sum e a ss is first held = by_layer e (form.Sum a ss) (TypedForm-F.Sum a ss) is (form.rolls-Sum a ss) (both_true (is_held_expr a) (all (map summand_held ss)) first (summands_held ss ∙ held))

pub held_product : (e a : TypedExpr) (fs : List TypedProductPart) → e.form ≡ form.Product a fs → is_held_expr a ≡ true → list_all (λ f. is_held_expr f.part) fs ≡ true → is_held_expr e ≡ true
held_product e a fs is first held =
    by_layer e (form.Product a fs) (TypedForm-F.Product a fs) is (form.rolls-Product a fs) (both_true (is_held_expr a) (all (map factor_held fs)) first (factors_held fs ∙ held))

pub held_minus : (e a : TypedExpr) → e.form ≡ form.Minus a → is_held_expr a ≡ true → is_held_expr e ≡ true
held_minus e a is held = by_layer e (form.Minus a) (TypedForm-F.Minus a) is (form.rolls-Minus a) held

pub held_literal : (e : TypedExpr) (v : Value) → e.form ≡ form.Literal v → is_held v ≡ true → is_held_expr e ≡ true
held_literal e v is held = by_layer e (form.Literal v) (TypedForm-F.Literal v) is (form.rolls-Literal v) held

pub held_param : (e : TypedExpr) (n : ℕ) → e.form ≡ form.Param n → n < 2 ^ 32 → is_held_expr e ≡ true
held_param e n is low = by_layer e (form.Param n) (TypedForm-F.Param n) is (form.rolls-Param n) (lt-ltb n 4294967296 low)

pub held_column : (e : TypedExpr) (n : ℕ) → e.form ≡ form.Column n → is_held_expr e ≡ true
held_column e n is = by_layer e (form.Column n) (TypedForm-F.Column n) is (form.rolls-Column n) refl

pub held_current : (e : TypedExpr) → e.form ≡ form.CurrentTimestamp → is_held_expr e ≡ true
held_current e is = by_layer e form.CurrentTimestamp TypedForm-F.CurrentTimestamp is form.rolls-CurrentTimestamp refl

pub held_now : (e : TypedExpr) → e.form ≡ form.Now → is_held_expr e ≡ true
held_now e is = by_layer e form.Now TypedForm-F.Now is form.rolls-Now refl

pub held_transaction : (e : TypedExpr) → e.form ≡ form.TransactionTimestamp → is_held_expr e ≡ true
held_transaction e is = by_layer e form.TransactionTimestamp TypedForm-F.TransactionTimestamp is form.rolls-TransactionTimestamp refl

-- the forms
pub ruleset held = (held_or, held_and, held_concat, held_not, held_is_null, held_compare, held_member, held_sum, held_product, held_minus, held_literal, held_param, held_column, held_current, held_now, held_transaction)

-- ---- values

fits_4 : (n : ℤ) → FitsSigned w32 n → fits_int4 n ≡ true
fits_4 (pos k) fits = both_true (le_z (neg_ℤ (pos 2147483648)) (pos k)) (le_z (pos k) (pos 2147483647)) refl (le-leb k 2147483647 (omega (arith, fits.sfits)))
fits_4 (negsuc k) fits = both_true (le_z (neg_ℤ (pos 2147483648)) (negsuc k)) (le_z (negsuc k) (pos 2147483647)) (le-leb k 2147483647 (omega (arith, fits.sfits))) refl

fits_8 : (n : ℤ) → FitsSigned w64 n → fits_int8 n ≡ true
fits_8 (pos k) fits = both_true (le_z (neg_ℤ (pos 9223372036854775808)) (pos k)) (le_z (pos k) (pos 9223372036854775807)) refl (le-leb k 9223372036854775807 (omega (arith, fits.sfits)))
fits_8 (negsuc k) fits = both_true (le_z (neg_ℤ (pos 9223372036854775808)) (negsuc k)) (le_z (negsuc k) (pos 9223372036854775807)) (le-leb k 9223372036854775807 (omega (arith, fits.sfits))) refl

pub null_held : (v : Value) → v ≡ value.Null → is_held v ≡ true
null_held v is = ap is_held is

pub bool_held : (v : Value) (b : Truth) → v ≡ value.Bool b → is_held v ≡ true
bool_held v b is = ap is_held is

pub int4_held : (v : Value) (n : ℤ) → v ≡ value.Int4 n → FitsSigned w32 n → is_held v ≡ true
int4_held v n is fits = ap is_held is ∙ fits_4 n fits

pub int8_held : (v : Value) (n : ℤ) → v ≡ value.Int8 n → FitsSigned w64 n → is_held v ≡ true
int8_held v n is fits = ap is_held is ∙ fits_8 n fits

pub text_held : (v : Value) (text : List ℕ) → v ≡ value.Text text → is_held v ≡ true
text_held v text is = ap is_held is

pub moment_held : (v : Value) (m : ℤ) → v ≡ value.Moment m → is_held v ≡ true
moment_held v m is = ap is_held is

pub ruleset values = (null_held, bool_held, int4_held, int8_held, text_held, moment_held)
