-- What logic gives is a bool or Null, whatever its parts are.
use Rattle.std.proofs.Common.{◌≡◌, List, [], ◌∷◌, map, refl}
use Rattle.std.specs.Prelude.{◌||◌, Bool as Truth, true, false, not, cond, if◌then◌else◌, unwrap_or, Some, Ok, Err}
use Rattle.std.specs.List.{find, list_any}
use Rattle.pg_values.specs.declared.col_type.ColType.TheVariants.{Bool}
use Rattle.pg_values.specs.declared.value.Value.{Value}
use Rattle.pg_values.specs.declared.value.Value.TheVariants as value
use Rattle.sql_tree.specs.declared.expr.Comparison.{Comparison}
use Rattle.sql_tree.specs.declared.expr.Comparison.TheVariants as how
use Rattle.checked_sql.specs.Sound.{has_one, is_value}
use Rattle.sql_values.specs.Outcome.{Outcome, behind, made, of_both}
use Rattle.sql_values.specs.Order.{compared, is_null, is_so, standing}
use Rattle.sql_values.specs.Logic.{among, decides, is_truth, is_unknown, junction, member, opposite, opposite_if, tested, undecided}
use Rattle.backend_trait.specs.Typed.{IsOutcomeOf}

-- a bool or Null
abbrev IsBool : Value → Type 0
IsBool v = is_value Bool v ≡ true

truth_is : (stop : Truth) (v : Value) → is_truth stop v ≡ true → IsBool v
truth_is stop value.Null e = refl
truth_is stop (value.Bool b) e = refl
truth_is true v e = absurd (cc)
truth_is false v e = absurd (cc)

decided_is : (stop : Truth) (o : Outcome) → decides stop o ≡ true → IsOutcomeOf Bool o
decided_is stop (Ok v) e = truth_is stop v e
decided_is stop (Err code) e = tt

found_is : (stop : Truth) (parts : List Outcome) (other : Outcome) → IsOutcomeOf Bool other → IsOutcomeOf Bool (unwrap_or (find (decides stop) parts) other)
found_is stop [] other is = is
found_is stop (o ∷ parts) other is = go (found_is stop parts other is) (decides stop o) refl
  where
    go : IsOutcomeOf Bool (unwrap_or (find (decides stop) parts) other) → (b : Truth) → decides stop o ≡ b → IsOutcomeOf Bool (unwrap_or (cond b (Some o) (find (decides stop) parts)) other)
    go rest true e = decided_is stop o e
    go rest false e = rest

if_bool : (b c : Truth) → IsBool (if b then value.Null else value.Bool c)
if_bool true c = refl
if_bool false c = refl

pub junction_typed : (stop : Truth) (parts : List Outcome) → IsOutcomeOf Bool (junction stop parts)
junction_typed stop parts = found_is stop parts (Ok (undecided stop parts)) (if_bool (list_any is_unknown parts) (not stop))

opposite_is : (v : Value) → IsBool (opposite v)
opposite_is (value.Bool b) = refl
opposite_is v = refl

pub not_typed : (o : Outcome) → IsOutcomeOf Bool (made opposite o)
not_typed (Ok v) = opposite_is v
not_typed (Err code) = tt

compared_is : (h : Comparison) (a b : Value) → IsBool (compared h a b)
compared_is h a b = if_bool (is_null a || is_null b) (is_so h (standing a b))

pub compare_typed : (h : Comparison) (o p : Outcome) → IsOutcomeOf Bool (of_both (λ a b. Ok (compared h a b)) o p)
compare_typed h (Err code) p = tt
compare_typed h (Ok a) (Err code) = tt
compare_typed h (Ok a) (Ok b) = compared_is h a b

if_among : (b : Truth) (o : Outcome) → IsOutcomeOf Bool o → IsOutcomeOf Bool (if b then Ok value.Null else o)
if_among true o is = refl
if_among false o is = is

among_typed : (v : Value) (entries : List Outcome) → IsOutcomeOf Bool (among v entries)
among_typed v entries =
    if_among (is_null v) (junction true (map (made (compared how.Equal v)) entries)) (junction_typed true (map (made (compared how.Equal v)) entries))

opposite_if_is : (negated : Truth) (v : Value) → IsBool v → IsBool (opposite_if negated v)
opposite_if_is true v is = opposite_is v
opposite_if_is false v is = is

made_typed : (negated : Truth) (o : Outcome) → IsOutcomeOf Bool o → IsOutcomeOf Bool (made (opposite_if negated) o)
made_typed negated (Ok v) is = opposite_if_is negated v is
made_typed negated (Err code) is = tt

behind_typed : (o : Outcome) (entries : List Outcome) → IsOutcomeOf Bool (behind o (λ v. among v entries))
behind_typed (Ok v) entries = among_typed v entries
behind_typed (Err code) entries = tt

pub member_typed : (negated : Truth) (o : Outcome) (entries : List Outcome) → IsOutcomeOf Bool (member negated o entries)
member_typed negated o entries = made_typed negated (behind o (λ v. among v entries)) (behind_typed o entries)

tested_is : (v : Value) (tests : List Truth) → IsBool v → IsBool (tested v tests)
tested_is v [] is = is
tested_is v (negated ∷ tests) is = tested_is (value.Bool (if negated then not (is_null v) else is_null v)) tests refl

pub tests_typed : (o : Outcome) (tests : List Truth) → has_one tests ≡ true → IsOutcomeOf Bool (made (λ v. tested v tests) o)
tests_typed o [] some = absurd (let f : false ≡ true = some in cc)
tests_typed (Err code) (negated ∷ tests) some = tt
tests_typed (Ok v) (negated ∷ tests) some = tested_is (value.Bool (if negated then not (is_null v) else is_null v)) tests refl
