-- What an expression means on a row.
use Rattle.std.specs.Prelude.{ℕ, zero, suc, ℤ, Bool as Truth, true, false, List, [], ◌∷◌, slice_get, Option, Some, None, Ok}
use Rattle.pg_values.specs.declared.value.Value.{Value}
use Rattle.pg_values.specs.declared.value.Value.TheVariants as value
use Rattle.sql_tree.specs.declared.expr.ProductSign.{ProductSign}
use Rattle.typed_sql.specs.declared.typed.TypedExpr.{TypedExpr}
use Rattle.typed_sql.specs.declared.typed.TypedForm.TheOpen.{TypedForm-F}
use Rattle.typed_sql.specs.declared.typed.TypedForm.TheFolds.{fold-TypedExpr}
use Rattle.sql_values.specs.declared.around.Around.{Around as Given}
use Rattle.sql_values.specs.Outcome.{Outcome, behind, made, of_both, chained, or_null}
use Rattle.sql_values.specs.Arithmetic.{calculated, summed, multiplied, negative}
use Rattle.sql_values.specs.Order.{compared, joined}
use Rattle.sql_values.specs.Logic.{opposite, junction, member, tested}

-- what the names in an expression stand for: the row, the parameters from 1 on, and the moment of the transaction
pub record Around : Type 0 where
  pub row : List Value
  pub parameters : List Value
  pub moment : ℤ

-- the same, as the code has it
abbrev pub around_of : Given → Around
around_of given = record { row = given.row.now; parameters = given.parameters.now; moment = given.moment }

abbrev pub parameter_of : List Value → ℕ → Value
parameter_of parameters zero = value.Null
parameter_of parameters (suc at) = or_null (slice_get parameters at)

-- a summand and its sign, a factor and its sign, by what they come to
abbrev pub Summand : Type 0
Summand = Truth × Outcome

abbrev pub Factor : Type 0
Factor = ProductSign × Outcome

abbrev pub sum_of : Outcome → List Summand → Outcome
sum_of first summands = chained (λ s. s.1) (λ s. calculated (summed s.0)) first summands

abbrev pub product_of : Outcome → List Factor → Outcome
product_of first factors = chained (λ f. f.1) (λ f. calculated (multiplied f.0)) first factors

abbrev pub chained_texts : Outcome → List Outcome → Outcome
chained_texts first parts = chained (λ part. part) (λ part. joined) first parts

-- a text behind what stands to the left of it, if that is not the first
abbrev pub joined_to : Option Value → Value → Outcome
joined_to None back = Ok back
joined_to (Some front) back = joined front back

-- there are two or more
abbrev pub text_of : List Outcome → Outcome
text_of [] = Ok value.Null
text_of (first ∷ parts) = chained_texts first parts

-- an expression by what its parts come to
abbrev pub outcome_of : Around → TypedForm-F Outcome Outcome Factor Summand → Outcome
outcome_of around (TypedForm-F.Or parts) = junction true parts
outcome_of around (TypedForm-F.And parts) = junction false parts
outcome_of around (TypedForm-F.Not part) = made opposite part
outcome_of around (TypedForm-F.IsNull part tests) = made (λ v. tested v tests) part
outcome_of around (TypedForm-F.Compare how left right) = of_both (λ a b. Ok (compared how a b)) left right
outcome_of around (TypedForm-F.Member part negated entries) = member negated part entries
outcome_of around (TypedForm-F.Concat parts) = text_of parts
outcome_of around (TypedForm-F.Sum first summands) = sum_of first summands
outcome_of around (TypedForm-F.Product first factors) = product_of first factors
outcome_of around (TypedForm-F.Minus part) = behind part negative
outcome_of around (TypedForm-F.Literal v) = Ok v
outcome_of around (TypedForm-F.Param number) = Ok (parameter_of around.parameters number)
outcome_of around (TypedForm-F.Column number) = Ok (or_null (slice_get around.row number))
outcome_of around TypedForm-F.CurrentTimestamp = Ok (value.Moment around.moment)
outcome_of around TypedForm-F.Now = Ok (value.Moment around.moment)
outcome_of around TypedForm-F.TransactionTimestamp = Ok (value.Moment around.moment)

-- what an expression comes to on a row
abbrev pub value_in : Around → TypedExpr → Outcome
value_in around = fold-TypedExpr Outcome Outcome Factor Summand
    (outcome_of around) (λ e. e.form) (λ f. (f.sign, f.part)) (λ s. (s.minus, s.part))
