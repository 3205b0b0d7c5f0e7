-- What a filter that asks for a key comes to at a row whose key misses its constant.
use Rattle.std.proofs.Common.{◌≡◌, ℕ, ◌<◌, List, [], ◌∷◌, map, length, get_or, arith, ap, sym, ◌∙◌, refl}
use Rattle.std.specs.Prelude.{◌&&◌, ◌||◌, not, Bool as Truth, true, false, IfOk, IfSome, Option, Some, None, Result, Ok, Err, if◌then◌else◌}
use Rattle.std.specs.declared.cmp.Ordering.{Ordering}
use Rattle.std.specs.declared.cmp.Ordering.TheVariants.{Less, Equal, Greater}
use Rattle.std.specs.Ordering.{is_eq, ordering_reverse}
use Rattle.std.specs.Cmp.{IsTotalOrder}
use Rattle.std.proofs.lemmas.Cmp.{int_cmp_total, nat_list_cmp_total, then_total, on_total}
use Rattle.pg_values.specs.declared.value.Value.{Value}
use Rattle.pg_values.specs.declared.value.Value.TheVariants as value
use Rattle.sql_tree.specs.declared.expr.Comparison.TheVariants as how
use Rattle.typed_sql.specs.declared.typed.TypedExpr.{TypedExpr}
use Rattle.sql_values.specs.Outcome.{Outcome, of_both}
use Rattle.sql_values.specs.Order.{compared, is_null, number_in, standing, text_in}
use Rattle.sql_values.specs.Logic.{is_truth, junction}
use Rattle.sql_values.specs.Meaning.{value_in}
use Rattle.sql_eval.specs.Views.{cell_at}
use Rattle.sql_eval.specs.Walks.{made}
use Rattle.sql_eval.specs.Reads.{alone, at_row}
use Rattle.sql_eval.specs.Seeking.{AreEqualAs, AreFalseBeside, ComesTo, Seeks, is_missed, key_is}

-- what holds of a value, if there is one
pub if_there : {A : Type 0} (o : Option A) (P Q : A → Type 0) → ((a : A) → P a → Q a) → IfSome o P → IfSome o Q
if_there None P Q on holds = tt
if_there (Some a) P Q on holds = on a holds

pub if_fine : {A E : Type 0} (r : Result A E) (P Q : A → Type 0) → ((a : A) → P a → Q a) → IfOk r P → IfOk r Q
if_fine (Ok a) P Q on holds = on a holds
if_fine (Err e) P Q on holds = tt

pub is_not : (b : Truth) → not b ≡ true → b ≡ false
is_not true e = absurd (cc)
is_not false e = refl

-- ---- equality has no sides

turned : (r : Ordering) → is_eq (ordering_reverse r) ≡ is_eq r
turned Less = refl
turned Equal = refl
turned Greater = refl

standing_total : IsTotalOrder standing
standing_total = then_total (on_total number_in int_cmp_total) (on_total text_in nat_list_cmp_total)

either : (a b : Truth) → (a || b) ≡ (b || a)
either true true = refl
either true false = refl
either false true = refl
either false false = refl

equal_turned : (a b : Value) → is_eq (standing a b) ≡ is_eq (standing b a)
equal_turned a b = ap is_eq (standing_total.antisymm a b) ∙ turned (standing b a)

compared_turned : (a b : Value) → compared how.Equal a b ≡ compared how.Equal b a
compared_turned a b =
    ap (λ (t : Truth). if t then value.Null else value.Bool (is_eq (standing a b))) (either (is_null a) (is_null b))
    ∙ ap (λ (t : Truth). if is_null b || is_null a then value.Null else value.Bool t) (equal_turned a b)

module _ (left right : TypedExpr) (key : ℕ) (v : Value) where
  abbrev equal_outcome : Outcome → Outcome → Outcome
  equal_outcome a b = of_both (λ a b. Ok (compared how.Equal a b)) a b

  pub key_left : ComesTo left (cell_at key) → ComesTo right (λ row. v) → AreEqualAs left right (key_is key v)
  key_left column constant = λ row.
      ap (λ (o : Outcome). equal_outcome o (value_in (at_row alone row) right)) (column row)
      ∙ ap (λ (o : Outcome). equal_outcome (Ok (cell_at key row)) o) (constant row)

  pub key_right : ComesTo right (cell_at key) → ComesTo left (λ row. v) → AreEqualAs left right (key_is key v)
  key_right column constant = λ row.
      ap (λ (o : Outcome). equal_outcome o (value_in (at_row alone row) right)) (constant row)
      ∙ (ap (λ (o : Outcome). equal_outcome (Ok v) o) (column row) ∙ ap Ok (compared_turned v (cell_at key row)))

-- ---- a key that misses

missed_false : (constant key : Value) → is_null constant ≡ false → is_missed constant key ≡ true → compared how.Equal key constant ≡ value.Bool false
missed_false constant key some missed =
    ap (λ (t : Truth). if is_null key || is_null constant then value.Null else value.Bool t) (equal_turned key constant)
    ∙ go (is_null key) (is_null constant) (is_eq (standing constant key)) some missed
  where
    go : (a b c : Truth) → b ≡ false → (b || (not a && not c)) ≡ true → (if a || b then value.Null else value.Bool c) ≡ value.Bool false
    go a true c some missed = absurd (cc)
    go true false c some missed = absurd (cc)
    go false false true some missed = absurd (cc)
    go false false false some missed = refl

missed_untrue : (constant key : Value) → is_missed constant key ≡ true → is_truth true (compared how.Equal key constant) ≡ false
missed_untrue constant key missed =
    ap (λ (t : Truth). is_truth true (if is_null key || is_null constant then value.Null else value.Bool t)) (equal_turned key constant)
    ∙ go (is_null key) (is_null constant) (is_eq (standing constant key)) missed
  where
    go : (a b c : Truth) → (b || (not a && not c)) ≡ true → is_truth true (if a || b then value.Null else value.Bool c) ≡ false
    go true b c missed = refl
    go false true c missed = refl
    go false false true missed = absurd (cc)
    go false false false missed = refl

-- AND stops at its first part
pub false_first : (first : TypedExpr) (parts : List TypedExpr) (key : ℕ) (v : Value) → 0 < length parts → first ≡ get_or parts 0 first
    → is_null v ≡ false → ComesTo first (key_is key v) → AreFalseBeside parts key v
false_first first [] key v there is some comes = absurd (omega arith)
false_first first (part ∷ parts) key v there is some comes = λ row missed.
    ap (λ (o : Outcome). junction false (o ∷ map (value_in (at_row alone row)) parts))
    (ap (value_in (at_row alone row)) (sym is) ∙ (comes row ∙ ap Ok (missed_false v (cell_at key row) some missed)))

pub equal_seeks : (filter : TypedExpr) (key : ℕ) (v : Value) → ComesTo filter (key_is key v) → Seeks (Some filter) key v
equal_seeks filter key v comes = λ row missed.
    ap (made (is_truth true)) (comes row) ∙ ap Ok (missed_untrue v (cell_at key row) missed)
