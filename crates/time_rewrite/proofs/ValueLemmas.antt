-- What an expression at a moment comes to on a row.
use Rattle.std.proofs.Common.{◌≡◌, ◌∙◌, ℤ, ap, refl}
use Rattle.std.proofs.Math.Path.{fun_ext}
use Rattle.typed_sql.specs.declared.typed.TypedExpr.{TypedExpr}
use Rattle.typed_sql.specs.declared.typed.TypedForm.TheOpen.{TypedForm-F}
use Rattle.typed_sql.specs.declared.typed.TypedForm.TheFolds.{fold-TypedExpr}
use Rattle.sql_values.specs.Outcome.{Outcome}
use Rattle.sql_values.specs.Meaning.{Around, Summand, Factor, outcome_of, value_in}
use Rattle.time_rewrite.specs.Rewriting.{timed, expr_at}
use Rattle.time_rewrite.proofs.Folding.{folded_same}

-- a form comes to the same, whether the moment is round it or in it
outcome_same : (around : Around) (moment : ℤ) (x : TypedForm-F Outcome Outcome Factor Summand)
    → outcome_of around (timed moment x) ≡ outcome_of (record around { moment = moment }) x
outcome_same around moment (TypedForm-F.Or parts) = refl
outcome_same around moment (TypedForm-F.And parts) = refl
outcome_same around moment (TypedForm-F.Not part) = refl
outcome_same around moment (TypedForm-F.IsNull part tests) = refl
outcome_same around moment (TypedForm-F.Compare how left right) = refl
outcome_same around moment (TypedForm-F.Member part negated entries) = refl
outcome_same around moment (TypedForm-F.Concat parts) = refl
outcome_same around moment (TypedForm-F.Sum first summands) = refl
outcome_same around moment (TypedForm-F.Product first factors) = refl
outcome_same around moment (TypedForm-F.Minus part) = refl
outcome_same around moment (TypedForm-F.Literal v) = refl
outcome_same around moment (TypedForm-F.Param number) = refl
outcome_same around moment (TypedForm-F.Column number) = refl
outcome_same around moment TypedForm-F.CurrentTimestamp = refl
outcome_same around moment TypedForm-F.Now = refl
outcome_same around moment TypedForm-F.TransactionTimestamp = refl

pub value_same : (around : Around) (moment : ℤ) (e : TypedExpr)
    → value_in around (expr_at moment e) ≡ value_in (record around { moment = moment }) e
value_same around moment e =
    folded_same moment (outcome_of around) (λ e. e.form) (λ f. (f.sign, f.part)) (λ s. (s.minus, s.part)) e
    ∙ ap (λ (form : TypedForm-F Outcome Outcome Factor Summand → Outcome).
    fold-TypedExpr Outcome Outcome Factor Summand form (λ e. e.form) (λ f. (f.sign, f.part)) (λ s. (s.minus, s.part)) e)
    (fun_ext (outcome_same around moment))
