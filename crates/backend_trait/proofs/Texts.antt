-- What `||` gives is a text without a zero byte, or Null.
use Rattle.std.proofs.Common.{◌≡◌, ℕ, List, [], ◌∷◌, ◌++◌, length, refl}
use Rattle.std.specs.Prelude.{Bool as Truth, true, false, nat_lt, if◌then◌else◌, Ok, Err}
use Rattle.pg_values.specs.declared.col_type.ColType.TheVariants.{Text}
use Rattle.pg_values.specs.declared.value.Value.{Value}
use Rattle.pg_values.specs.declared.value.Value.TheVariants as value
use Rattle.checked_sql.specs.Sound.{has_no_zero, is_some_byte, is_value}
use Rattle.sql_values.specs.Outcome.{Outcome, of_both, too_large}
use Rattle.sql_values.specs.Order.{joined}
use Rattle.sql_values.specs.Meaning.{chained_texts, text_of}
use Rattle.backend_trait.specs.Typed.{IsOutcomeOf}
use Rattle.backend_trait.proofs.Truths.{and_true, both_true, Each}

no_zero_joined : (a b : List ℕ) → has_no_zero a ≡ true → has_no_zero b ≡ true → has_no_zero (a ++ b) ≡ true
no_zero_joined [] b x y = y
no_zero_joined (byte ∷ a) b x y =
    let both = and_true (is_some_byte byte) (has_no_zero a) x in
    both_true (is_some_byte byte) (has_no_zero (a ++ b)) both.0 (no_zero_joined a b both.1 y)

if_text : (large : Truth) (text : List ℕ) → has_no_zero text ≡ true → IsOutcomeOf Text (if large then Err too_large else Ok (value.Text text))
if_text true text is = tt
if_text false text is = is

joined_is : (a b : Value) → is_value Text a ≡ true → is_value Text b ≡ true → IsOutcomeOf Text (joined a b)
joined_is (value.Text a) (value.Text b) x y = if_text (nat_lt 1000000 (length (a ++ b))) (a ++ b) (no_zero_joined a b x y)
joined_is a b x y = refl

both_is : (o p : Outcome) → IsOutcomeOf Text o → IsOutcomeOf Text p → IsOutcomeOf Text (of_both joined o p)
both_is (Err code) p x y = tt
both_is (Ok a) (Err code) x y = tt
both_is (Ok a) (Ok b) x y = joined_is a b x y

chain_is : (first : Outcome) (parts : List Outcome) → IsOutcomeOf Text first → Each (IsOutcomeOf Text) parts → IsOutcomeOf Text (chained_texts first parts)
chain_is first [] is each = is
chain_is first (part ∷ parts) is each = chain_is (of_both joined first part) parts (both_is first part is each.0) each.1

pub text_typed : (parts : List Outcome) → Each (IsOutcomeOf Text) parts → IsOutcomeOf Text (text_of parts)
text_typed [] each = refl
text_typed (first ∷ parts) each = chain_is first parts each.0 each.1
