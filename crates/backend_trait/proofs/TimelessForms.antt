-- Whether a form has no time function, by its parts.
use Rattle.std.proofs.Common.{rules, ◌≡◌, ◌∙◌, ℕ, List, [], ◌∷◌, map, refl, ap, sym}
use Rattle.std.specs.Prelude.{◌&&◌, Bool as Truth, true, false}
use Rattle.std.specs.List.{list_all}
use Rattle.pg_values.specs.declared.value.Value.{Value}
use Rattle.sql_tree.specs.declared.expr.Comparison.{Comparison}
use Rattle.typed_sql.specs.declared.typed.TypedExpr.{TypedExpr}
use Rattle.typed_sql.specs.declared.typed.TypedForm.{TypedForm, the_lemmas}
use Rattle.typed_sql.specs.declared.typed.TypedForm.TheOpen.{TypedForm-F}
use Rattle.typed_sql.specs.declared.typed.TypedForm.TheFolds.{fold-TypedSumPart, fold-TypedProductPart, fold-roll-TypedForm}
use Rattle.typed_sql.specs.declared.typed.TypedForm.TheVariants as form
use Rattle.typed_sql.specs.declared.typed.TypedSumPart.{TypedSumPart}
use Rattle.typed_sql.specs.declared.typed.TypedProductPart.{TypedProductPart}
use Rattle.time_rewrite.specs.Timeless.{timeless_expr, timeless_form}
use Rattle.backend_trait.specs.Forms.{timeless_in}

abbrev summand_in : TypedSumPart → Truth
summand_in = fold-TypedSumPart Truth Truth Truth Truth timeless_form (λ e. e.form) (λ f. f.part) (λ s. s.part)

abbrev factor_in : TypedProductPart → Truth
factor_in = fold-TypedProductPart Truth Truth Truth Truth timeless_form (λ e. e.form) (λ f. f.part) (λ s. s.part)

pub by_form : (e : TypedExpr) → timeless_expr e ≡ timeless_in e.form
by_form e = search (rules, the_lemmas)

summand_is : (s : TypedSumPart) → summand_in s ≡ timeless_expr s.part
summand_is s = search (rules, the_lemmas)

factor_is : (f : TypedProductPart) → factor_in f ≡ timeless_expr f.part
factor_is f = search (rules, the_lemmas)

all_is : (es : List TypedExpr) → list_all (λ part. part) (map timeless_expr es) ≡ list_all timeless_expr es
all_is [] = refl
all_is (e ∷ es) = ap (λ (b : Truth). timeless_expr e && b) (all_is es)

summands_are : (ss : List TypedSumPart) → list_all (λ summand. summand) (map summand_in ss) ≡ list_all (λ s. timeless_expr s.part) ss
summands_are [] = refl
summands_are (s ∷ ss) = ap (λ (b : Truth). b && list_all (λ summand. summand) (map summand_in ss)) (summand_is s) ∙ ap (λ (b : Truth). timeless_expr s.part && b) (summands_are ss)

factors_are : (fs : List TypedProductPart) → list_all (λ factor. factor) (map factor_in fs) ≡ list_all (λ f. timeless_expr f.part) fs
factors_are [] = refl
factors_are (f ∷ fs) = ap (λ (b : Truth). b && list_all (λ factor. factor) (map factor_in fs)) (factor_is f) ∙ ap (λ (b : Truth). timeless_expr f.part && b) (factors_are fs)

pub timeless_or : (f : TypedForm) (parts : List TypedExpr) → f ≡ form.Or parts → timeless_in f ≡ list_all timeless_expr parts
timeless_or f parts is = ap timeless_in (is ∙ sym (form.rolls-Or parts))
    ∙ fold-roll-TypedForm Truth Truth Truth Truth timeless_form (λ e. e.form) (λ f. f.part) (λ s. s.part) (TypedForm-F.Or parts) ∙ all_is parts

pub timeless_and : (f : TypedForm) (parts : List TypedExpr) → f ≡ form.And parts → timeless_in f ≡ list_all timeless_expr parts
timeless_and f parts is = ap timeless_in (is ∙ sym (form.rolls-And parts))
    ∙ fold-roll-TypedForm Truth Truth Truth Truth timeless_form (λ e. e.form) (λ f. f.part) (λ s. s.part) (TypedForm-F.And parts) ∙ all_is parts

pub timeless_not : (f : TypedForm) (of : TypedExpr) → f ≡ form.Not of → timeless_in f ≡ timeless_expr of
timeless_not f of is = ap timeless_in (is ∙ sym (form.rolls-Not of))
    ∙ fold-roll-TypedForm Truth Truth Truth Truth timeless_form (λ e. e.form) (λ f. f.part) (λ s. s.part) (TypedForm-F.Not of)

pub timeless_is_null : (f : TypedForm) (of : TypedExpr) (tests : List Truth) → f ≡ form.IsNull of tests → timeless_in f ≡ timeless_expr of
timeless_is_null f of tests is = ap timeless_in (is ∙ sym (form.rolls-IsNull of tests))
    ∙ fold-roll-TypedForm Truth Truth Truth Truth timeless_form (λ e. e.form) (λ f. f.part) (λ s. s.part) (TypedForm-F.IsNull of tests)

pub timeless_compare : (f : TypedForm) (how : Comparison) (left right : TypedExpr) → f ≡ form.Compare how left right → timeless_in f ≡ (timeless_expr left && timeless_expr right)
timeless_compare f how left right is = ap timeless_in (is ∙ sym (form.rolls-Compare how left right))
    ∙ fold-roll-TypedForm Truth Truth Truth Truth timeless_form (λ e. e.form) (λ f. f.part) (λ s. s.part) (TypedForm-F.Compare how left right)

pub timeless_member : (f : TypedForm) (of : TypedExpr) (negated : Truth) (entries : List TypedExpr) → f ≡ form.Member of negated entries → timeless_in f ≡ (timeless_expr of && list_all timeless_expr entries)
timeless_member f of negated entries is = ap timeless_in (is ∙ sym (form.rolls-Member of negated entries))
    ∙ fold-roll-TypedForm Truth Truth Truth Truth timeless_form (λ e. e.form) (λ f. f.part) (λ s. s.part) (TypedForm-F.Member of negated entries) ∙ ap (λ (b : Truth). timeless_expr of && b) (all_is entries)

pub timeless_concat : (f : TypedForm) (parts : List TypedExpr) → f ≡ form.Concat parts → timeless_in f ≡ list_all timeless_expr parts
timeless_concat f parts is = ap timeless_in (is ∙ sym (form.rolls-Concat parts))
    ∙ fold-roll-TypedForm Truth Truth Truth Truth timeless_form (λ e. e.form) (λ f. f.part) (λ s. s.part) (TypedForm-F.Concat parts) ∙ all_is parts

pub timeless_sum : (f : TypedForm) (first : TypedExpr) (parts : List TypedSumPart) → f ≡ form.Sum first parts → timeless_in f ≡ (timeless_expr first && list_all (λ s. timeless_expr s.part) parts)
timeless_sum f first parts is = ap timeless_in (is ∙ sym (form.rolls-Sum first parts))
    ∙ fold-roll-TypedForm Truth Truth Truth Truth timeless_form (λ e. e.form) (λ f. f.part) (λ s. s.part) (TypedForm-F.Sum first parts) ∙ ap (λ (b : Truth). timeless_expr first && b) (summands_are parts)

pub timeless_product : (f : TypedForm) (first : TypedExpr) (parts : List TypedProductPart) → f ≡ form.Product first parts → timeless_in f ≡ (timeless_expr first && list_all (λ f. timeless_expr f.part) parts)
timeless_product f first parts is = ap timeless_in (is ∙ sym (form.rolls-Product first parts))
    ∙ fold-roll-TypedForm Truth Truth Truth Truth timeless_form (λ e. e.form) (λ f. f.part) (λ s. s.part) (TypedForm-F.Product first parts) ∙ ap (λ (b : Truth). timeless_expr first && b) (factors_are parts)

pub timeless_minus : (f : TypedForm) (of : TypedExpr) → f ≡ form.Minus of → timeless_in f ≡ timeless_expr of
timeless_minus f of is = ap timeless_in (is ∙ sym (form.rolls-Minus of))
    ∙ fold-roll-TypedForm Truth Truth Truth Truth timeless_form (λ e. e.form) (λ f. f.part) (λ s. s.part) (TypedForm-F.Minus of)

pub timeless_literal : (f : TypedForm) (v : Value) → f ≡ form.Literal v → timeless_in f ≡ true
timeless_literal f v is = ap timeless_in (is ∙ sym (form.rolls-Literal v))
    ∙ fold-roll-TypedForm Truth Truth Truth Truth timeless_form (λ e. e.form) (λ f. f.part) (λ s. s.part) (TypedForm-F.Literal v)

pub timeless_param : (f : TypedForm) (number : ℕ) → f ≡ form.Param number → timeless_in f ≡ true
timeless_param f number is = ap timeless_in (is ∙ sym (form.rolls-Param number))
    ∙ fold-roll-TypedForm Truth Truth Truth Truth timeless_form (λ e. e.form) (λ f. f.part) (λ s. s.part) (TypedForm-F.Param number)

pub timeless_column : (f : TypedForm) (number : ℕ) → f ≡ form.Column number → timeless_in f ≡ true
timeless_column f number is = ap timeless_in (is ∙ sym (form.rolls-Column number))
    ∙ fold-roll-TypedForm Truth Truth Truth Truth timeless_form (λ e. e.form) (λ f. f.part) (λ s. s.part) (TypedForm-F.Column number)

pub timeless_current : (f : TypedForm) → f ≡ form.CurrentTimestamp → timeless_in f ≡ false
timeless_current f is = ap timeless_in (is ∙ sym form.rolls-CurrentTimestamp)
    ∙ fold-roll-TypedForm Truth Truth Truth Truth timeless_form (λ e. e.form) (λ f. f.part) (λ s. s.part) TypedForm-F.CurrentTimestamp

pub timeless_now : (f : TypedForm) → f ≡ form.Now → timeless_in f ≡ false
timeless_now f is = ap timeless_in (is ∙ sym form.rolls-Now)
    ∙ fold-roll-TypedForm Truth Truth Truth Truth timeless_form (λ e. e.form) (λ f. f.part) (λ s. s.part) TypedForm-F.Now

pub timeless_transaction : (f : TypedForm) → f ≡ form.TransactionTimestamp → timeless_in f ≡ false
timeless_transaction f is = ap timeless_in (is ∙ sym form.rolls-TransactionTimestamp)
    ∙ fold-roll-TypedForm Truth Truth Truth Truth timeless_form (λ e. e.form) (λ f. f.part) (λ s. s.part) TypedForm-F.TransactionTimestamp

pub ruleset forms = (timeless_or, timeless_and, timeless_not, timeless_is_null, timeless_compare, timeless_member, timeless_concat, timeless_sum, timeless_product, timeless_minus, timeless_literal, timeless_param, timeless_column, timeless_current, timeless_now, timeless_transaction)
