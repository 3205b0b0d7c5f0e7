-- What a column and a literal come to.
use Rattle.std.proofs.Common.{rules, ◌≡◌, ◌∙◌, ℕ, sym, ap}
use Rattle.std.specs.Prelude.{Ok, slice_get}
use Rattle.pg_values.specs.declared.col_type.ColType.{ColType}
use Rattle.pg_values.specs.declared.value.Value.{Value}
use Rattle.typed_sql.specs.declared.typed.TypedExpr.{TypedExpr}
use Rattle.typed_sql.specs.declared.typed.TypedForm.{TypedForm, the_lemmas}
use Rattle.typed_sql.specs.declared.typed.TypedForm.TheOpen.{TypedForm-F}
use Rattle.typed_sql.specs.declared.typed.TypedForm.TheFolds.{fold-TypedForm, fold-roll-TypedForm}
use Rattle.typed_sql.specs.declared.typed.TypedForm.TheVariants as form
use Rattle.typed_sql.specs.Typing.{literal, typed}
use Rattle.sql_values.specs.Outcome.{Outcome, or_null}
use Rattle.sql_values.specs.Meaning.{Around, Factor, Summand, outcome_of, value_in}

module _ (around : Around) where
  abbrev form_value : TypedForm → Outcome
  form_value = fold-TypedForm Outcome Outcome Factor Summand (outcome_of around) (λ e. e.form) (λ f. (f.sign, f.part)) (λ s. (s.minus, s.part))

  by_form : (e : TypedExpr) → value_in around e ≡ form_value e.form
  by_form e = search (rules, the_lemmas)

  pub literal_value : (k : ColType) (v : Value) → value_in around (literal k v) ≡ Ok v
  literal_value k v = by_form (literal k v) ∙ (ap form_value (sym (form.rolls-Literal v))
      ∙ fold-roll-TypedForm Outcome Outcome Factor Summand (outcome_of around) (λ e. e.form) (λ f. (f.sign, f.part)) (λ s. (s.minus, s.part)) (TypedForm-F.Literal v))

  pub column_value : (k : ColType) (number : ℕ) → value_in around (typed k (form.Column number)) ≡ Ok (or_null (slice_get around.row number))
  column_value k number = by_form (typed k (form.Column number)) ∙ (ap form_value (sym (form.rolls-Column number))
      ∙ fold-roll-TypedForm Outcome Outcome Factor Summand (outcome_of around) (λ e. e.form) (λ f. (f.sign, f.part)) (λ s. (s.minus, s.part)) (TypedForm-F.Column number))
