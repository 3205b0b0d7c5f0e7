-- Answers that are the same are one.
use Rattle.std.proofs.Common.{◌≡◌, true, false, refl, ap, eqb-true, eq-eqb}
use Rattle.std.specs.Cmp.{signed_Decides}
use Rattle.std.specs.Cmp.Lexicographic.{pointwise_decides, bytes_decides}
use Rattle.pg_values.specs.declared.value.Value.{Value}
use Rattle.pg_values.specs.declared.value.Value.TheVariants as values
use Rattle.pg_values.specs.contracts.value.ValuePartialEq.TheImpl as value_eq
use Rattle.sql_eval.specs.declared.row.Row.{Row}
use Rattle.sql_eval.specs.contracts.row.RowPartialEq.TheImpl as row_eq
use Rattle.backend_trait.specs.declared.answer.Answer.{Answer}
use Rattle.backend_trait.specs.declared.answer.Answer.TheVariants as answers
use Rattle.backend_trait.specs.Store.{is_refusal}
use Rattle.backend_trait.proofs.Telling.{Tells}
use Rattle.session_machine.specs.Answers.{is_same}

value_told : (x y : Value) → Tells ((value_eq.ghosts).eq x y) (x ≡ y)
value_told values.Null values.Null = (λ e. refl, λ e. refl)
value_told (values.Bool true) (values.Bool true) = (λ e. refl, λ e. refl)
value_told (values.Bool false) (values.Bool false) = (λ e. refl, λ e. refl)
value_told (values.Int4 a) (values.Int4 b) = (λ e. ap values.Int4 ((signed_Decides a b).0 e), λ e. (signed_Decides a b).1 (let same : a ≡ b = cc in same))
value_told (values.Int8 a) (values.Int8 b) = (λ e. ap values.Int8 ((signed_Decides a b).0 e), λ e. (signed_Decides a b).1 (let same : a ≡ b = cc in same))
value_told (values.Text a) (values.Text b) = (λ e. ap values.Text ((bytes_decides a b).0 e), λ e. (bytes_decides a b).1 (let same : a ≡ b = cc in same))
value_told (values.Moment a) (values.Moment b) = (λ e. ap values.Moment ((signed_Decides a b).0 e), λ e. (signed_Decides a b).1 (let same : a ≡ b = cc in same))
value_told x y = (λ e. absurd (cc), λ e. absurd (cc))

row_is : (x y : Row) → x.cells ≡ y.cells → x ≡ y
row_is x y e = λ i. record { cells = e i }

row_told : (x y : Row) → Tells ((row_eq.ghosts).eq x y) (x ≡ y)
row_told x y = (
  λ e. row_is x y ((pointwise_decides value_told x.cells y.cells).0 e),
  λ e. (pointwise_decides value_told x.cells y.cells).1 (ap (λ (r : Row). r.cells) e),
)

-- the same as a result is that result
pub same_result : (x y : Answer) → is_refusal y ≡ false → is_same x y ≡ true → x ≡ y
same_result answers.Began answers.Began plain e = refl
same_result (answers.Rows a) (answers.Rows b) plain e = ap answers.Rows ((pointwise_decides row_told a b).0 e)
same_result (answers.Count a) (answers.Count b) plain e = ap answers.Count (eqb-true a b e)
same_result answers.Locked answers.Locked plain e = refl
same_result answers.Done answers.Done plain e = refl
same_result (answers.Serial a) (answers.Serial b) plain e = ap answers.Serial ((signed_Decides a b).0 e)
same_result (answers.Refused a) (answers.Refused b) plain e = absurd (let z : true ≡ false = plain in cc)
same_result x y plain e = absurd (let z : false ≡ true = e in cc)

-- and each is the same as itself
pub same_itself : (x : Answer) → is_same x x ≡ true
same_itself answers.Began = refl
same_itself (answers.Rows a) = (pointwise_decides row_told a a).1 refl
same_itself (answers.Count a) = eq-eqb a a refl
same_itself answers.Locked = refl
same_itself answers.Done = refl
same_itself (answers.Serial a) = (signed_Decides a a).1 refl
same_itself (answers.Refused a) = (bytes_decides a.bytes a.bytes).1 refl
