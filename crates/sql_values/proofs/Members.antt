-- IN and its operand.
use Rattle.std.proofs.Common.{◌≡◌, List, [], ◌∷◌, map, ap, ◌∙◌, refl}
use Rattle.std.specs.Prelude.{Bool as Truth, true, false, Ok, if◌then◌else◌}
use Rattle.pg_values.specs.declared.value.Value.{Value}
use Rattle.pg_values.specs.declared.value.Value.TheVariants as value
use Rattle.sql_tree.specs.declared.expr.Comparison.TheVariants as how
use Rattle.sql_values.specs.Outcome.{Outcome, made}
use Rattle.sql_values.specs.Order.{is_null, compared}
use Rattle.sql_values.specs.Logic.{opposite_if, junction, among, member}

map_map : {A B C : Type 0} (g : B → C) (f : A → B) (xs : List A) → map g (map f xs) ≡ map (λ x. g (f x)) xs
map_map g f [] = refl
map_map g f (x ∷ xs) = ap (λ ys. g (f x) ∷ ys) (map_map g f xs)

null_stays : (negated : Truth) → opposite_if negated value.Null ≡ value.Null
null_stays true = refl
null_stays false = refl

-- a value that is Null
pub among_null : (negated : Truth) (v : Value) (entries : List Outcome) → is_null v ≡ true → made (opposite_if negated) (among v entries) ≡ Ok value.Null
among_null negated v entries null =
    ap (λ (b : Truth). made (opposite_if negated) (if b then Ok value.Null else junction true (map (made (compared how.Equal v)) entries))) null
    ∙ ap Ok (null_stays negated)

-- and one that is not
pub among_is : {A : Type 0} (v : Value) (f : A → Outcome) (xs : List A) → is_null v ≡ false
    → among v (map f xs) ≡ junction true (map (λ x. made (compared how.Equal v) (f x)) xs)
among_is v f xs other =
    ap (λ (b : Truth). if b then Ok value.Null else junction true (map (made (compared how.Equal v)) (map f xs))) other
    ∙ ap (junction true) (map_map (made (compared how.Equal v)) f xs)

-- what the operand comes to goes on
pub member_of : (negated : Truth) (operand : Outcome) (v : Value) (entries : List Outcome) → operand ≡ Ok v
    → member negated operand entries ≡ made (opposite_if negated) (among v entries)
member_of negated operand v entries is = ap (λ (o : Outcome). member negated o entries) is
