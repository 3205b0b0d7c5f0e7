-- A step at a place, and what is made of what it gives.
use Rattle.std.proofs.Common.{◌≡◌, ◌∙◌, ap, sym, refl, subst, true, false}
use Rattle.std.specs.Prelude.{Bool as Truth, Option, Some, None, Result, Ok, Err, neg_ℤ, pos}
use Rattle.pg_values.specs.declared.col_type.ColType.TheVariants as kind
use Rattle.pg_values.specs.declared.value.Value.TheVariants as value
use Rattle.sql_tree.specs.declared.expr.Expr.{Expr}
use Rattle.typed_sql.specs.declared.asks.Asks.{Asks}
use Rattle.typed_sql.specs.declared.fault.CheckFault.{CheckFault}
use Rattle.typed_sql.specs.declared.fault.CheckFault.TheVariants.{Refused, NoMemory}
use Rattle.typed_sql.specs.declared.typed.TypedExpr.{TypedExpr}
use Rattle.typed_sql.specs.declared.typed.TypedForm.TheVariants as form
use Rattle.typed_sql.specs.Places.{asks_number}
use Rattle.typed_sql.specs.Own.{joined_kind}
use Rattle.typed_sql.specs.Steps.{Known, Fault, fault, Step, Made, Answers, Becomes}
use Rattle.typed_sql.specs.Typing.{Place, Negative, literal, typed}

module _ {A B : Type 0} (make : A → B) (step : Step A) (known new : Known) where
  -- a step, and what a function makes of what it answers
  pub becomes_answers : (r : Result A CheckFault) (out : Result B CheckFault)
      → Answers (λ (a : A). a) r new (step known) → Becomes make r out → Answers (λ (b : B). b) out new (Made make step known)
  becomes_answers (Ok a) (Ok b) gives is = (Ok (a, new), gives, ap (λ (x : B). Ok (x, new)) is)
  becomes_answers (Ok a) (Err (Refused code name)) gives is = absurd is
  becomes_answers (Ok a) (Err NoMemory) gives is = tt
  becomes_answers (Err (Refused code name)) out fails is =
      subst (λ (o : Result B CheckFault). Answers (λ (b : B). b) o new (Made make step known)) (sym is) (Err (fault code.bytes name), fails, refl)
  becomes_answers (Err NoMemory) out fails is =
      subst (λ (o : Result B CheckFault). Answers (λ (b : B). b) o new (Made make step known)) (sym is) tt

-- a step at a place
pub placed_answers : {A B : Type 0} (make : A → B) (step : Asks → Step A) (asks wanted : Asks) (known new : Known) (r : Result A CheckFault) (out : Result B CheckFault)
    → asks ≡ wanted → Answers (λ (a : A). a) r new (step asks known) → Becomes make r out → Answers (λ (b : B). b) out new (Made make (step wanted) known)
placed_answers {A = A} make step asks wanted known new r out asks_is answered becomes =
    becomes_answers make (step wanted) known new r out
    (subst (λ (q : Asks). Answers (λ (a : A). a) r new (step q known)) asks_is answered) becomes

-- a number with a minus in front of it
module _ (at : Expr → Place) (of : Expr) (least : Truth) (known : Known) where
  pub least_gives : (made : TypedExpr) → true ≡ least → made ≡ literal kind.Int4 (value.Int4 (neg_ℤ (pos 2147483648)))
      → Negative least at of known (Ok (made, known))
  least_gives made is made_is =
      subst (λ (b : Truth). Negative b at of known (Ok (made, known))) is (ap (λ (x : TypedExpr). Ok (x, known)) made_is)

  pub other_answers : (asks : Asks) (new : Known) (r out : Result TypedExpr CheckFault) → false ≡ least → asks ≡ asks_number None
      → Answers (λ (x : TypedExpr). x) r new (at of asks known) → Becomes (λ (x : TypedExpr). typed (joined_kind (Some x.kind) None) (form.Minus x)) r out
      → Answers (λ (x : TypedExpr). x) out new (Negative least at of known)
  other_answers asks new r out is asks_is answered becomes =
      subst (λ (b : Truth). Answers (λ (x : TypedExpr). x) out new (Negative b at of known)) is
      (placed_answers (λ (x : TypedExpr). typed (joined_kind (Some x.kind) None) (form.Minus x)) (at of) asks (asks_number None) known new r out
      asks_is answered becomes)
