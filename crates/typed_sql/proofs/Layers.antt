-- The layer of each form of an expression, and what is answered where the form is this.
use Rattle.std.proofs.Common.{◌≡◌, ◌∙◌, ℕ, ℤ, List, ap, sym, subst}
use Rattle.std.specs.Prelude.{Bool as Truth, Option, Result}
use Rattle.pg_values.specs.declared.col_type.ColType.{ColType}
use Rattle.sql_tree.specs.declared.expr.Comparison.{Comparison}
use Rattle.sql_tree.specs.declared.expr.SumPart.{SumPart}
use Rattle.sql_tree.specs.declared.expr.ProductPart.{ProductPart}
use Rattle.sql_tree.specs.declared.expr.Expr.{Expr, out-Expr, out-roll-Expr}
use Rattle.sql_tree.specs.declared.expr.Expr.TheVariants as forms
use Rattle.sql_tree.specs.declared.expr.Expr.TheOpen.{Expr-F}
use Rattle.typed_sql.specs.declared.fault.CheckFault.{CheckFault}
use Rattle.typed_sql.specs.declared.typed.TypedExpr.{TypedExpr}
use Rattle.typed_sql.specs.Own.{Scope}
use Rattle.typed_sql.specs.Steps.{Known, Step, Answers}
use Rattle.typed_sql.specs.Typing.{Form}
use Rattle.typed_sql.specs.Meaning.{under, FormOf}

pub out_or : (parts : List Expr) → out-Expr (forms.Or parts) ≡ Expr-F.Or parts
out_or parts = ap out-Expr (sym (forms.rolls-Or parts)) ∙ out-roll-Expr (Expr-F.Or parts)

pub out_and : (parts : List Expr) → out-Expr (forms.And parts) ≡ Expr-F.And parts
out_and parts = ap out-Expr (sym (forms.rolls-And parts)) ∙ out-roll-Expr (Expr-F.And parts)

pub out_not : (part : Expr) → out-Expr (forms.Not part) ≡ Expr-F.Not part
out_not part = ap out-Expr (sym (forms.rolls-Not part)) ∙ out-roll-Expr (Expr-F.Not part)

pub out_is_null : (part : Expr) (tests : List Truth) → out-Expr (forms.IsNull part tests) ≡ Expr-F.IsNull part tests
out_is_null part tests = ap out-Expr (sym (forms.rolls-IsNull part tests)) ∙ out-roll-Expr (Expr-F.IsNull part tests)

pub out_compare : (how : Comparison) (left right : Expr) → out-Expr (forms.Compare how left right) ≡ Expr-F.Compare how left right
out_compare how left right = ap out-Expr (sym (forms.rolls-Compare how left right)) ∙ out-roll-Expr (Expr-F.Compare how left right)

pub out_member : (part : Expr) (negated : Truth) (entries : List Expr) → out-Expr (forms.Member part negated entries) ≡ Expr-F.Member part negated entries
out_member part negated entries = ap out-Expr (sym (forms.rolls-Member part negated entries)) ∙ out-roll-Expr (Expr-F.Member part negated entries)

pub out_sum : (first : Expr) (parts : List SumPart) → out-Expr (forms.Sum first parts) ≡ Expr-F.Sum first parts
out_sum first parts = ap out-Expr (sym (forms.rolls-Sum first parts)) ∙ out-roll-Expr (Expr-F.Sum first parts)

pub out_product : (first : Expr) (parts : List ProductPart) → out-Expr (forms.Product first parts) ≡ Expr-F.Product first parts
out_product first parts = ap out-Expr (sym (forms.rolls-Product first parts)) ∙ out-roll-Expr (Expr-F.Product first parts)

pub out_concat : (parts : List Expr) → out-Expr (forms.Concat parts) ≡ Expr-F.Concat parts
out_concat parts = ap out-Expr (sym (forms.rolls-Concat parts)) ∙ out-roll-Expr (Expr-F.Concat parts)

pub out_minus : (part : Expr) → out-Expr (forms.Minus part) ≡ Expr-F.Minus part
out_minus part = ap out-Expr (sym (forms.rolls-Minus part)) ∙ out-roll-Expr (Expr-F.Minus part)

pub out_int : (n : ℤ) → out-Expr (forms.Int n) ≡ Expr-F.Int n
out_int n = ap out-Expr (sym (forms.rolls-Int n)) ∙ out-roll-Expr (Expr-F.Int n)

pub out_str : (text : List ℕ) → out-Expr (forms.Str text) ≡ Expr-F.Str text
out_str text = ap out-Expr (sym (forms.rolls-Str text)) ∙ out-roll-Expr (Expr-F.Str text)

pub out_bool : (given : Truth) → out-Expr (forms.Bool given) ≡ Expr-F.Bool given
out_bool given = ap out-Expr (sym (forms.rolls-Bool given)) ∙ out-roll-Expr (Expr-F.Bool given)

pub out_null : out-Expr forms.Null ≡ Expr-F.Null
out_null = ap out-Expr (sym forms.rolls-Null) ∙ out-roll-Expr Expr-F.Null

pub out_param : (n : ℕ) → out-Expr (forms.Param n) ≡ Expr-F.Param n
out_param n = ap out-Expr (sym (forms.rolls-Param n)) ∙ out-roll-Expr (Expr-F.Param n)

pub out_column : (qualifier : Option (List ℕ)) (name : List ℕ) → out-Expr (forms.Column qualifier name) ≡ Expr-F.Column qualifier name
out_column qualifier name = ap out-Expr (sym (forms.rolls-Column qualifier name)) ∙ out-roll-Expr (Expr-F.Column qualifier name)

pub out_current : out-Expr forms.CurrentTimestamp ≡ Expr-F.CurrentTimestamp
out_current = ap out-Expr (sym forms.rolls-CurrentTimestamp) ∙ out-roll-Expr Expr-F.CurrentTimestamp

pub out_now : out-Expr forms.Now ≡ Expr-F.Now
out_now = ap out-Expr (sym forms.rolls-Now) ∙ out-roll-Expr Expr-F.Now

pub out_transaction : out-Expr forms.TransactionTimestamp ≡ Expr-F.TransactionTimestamp
out_transaction = ap out-Expr (sym forms.rolls-TransactionTimestamp) ∙ out-roll-Expr Expr-F.TransactionTimestamp

pub out_moment : (text : List ℕ) → out-Expr (forms.Moment text) ≡ Expr-F.Moment text
out_moment text = ap out-Expr (sym (forms.rolls-Moment text)) ∙ out-roll-Expr (Expr-F.Moment text)

-- an expression of this form has this layer
pub by_layer : (scope : Scope) (leaf : ColType) (e whole : Expr) (layer : Expr-F Expr ProductPart SumPart) (r : Result TypedExpr CheckFault) (known new : Known)
    → e ≡ whole → out-Expr whole ≡ layer → Answers (λ (x : TypedExpr). x) r new (Form scope (under scope) layer leaf known)
    → Answers (λ (x : TypedExpr). x) r new (FormOf scope e leaf known)
by_layer scope leaf e whole layer r known new is out answered =
    subst (λ (l : Expr-F Expr ProductPart SumPart). Answers (λ (x : TypedExpr). x) r new (Form scope (under scope) l leaf known))
    (sym (ap out-Expr is ∙ out)) answered
