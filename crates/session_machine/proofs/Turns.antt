-- The backend that `pick` answers is the one whose turn it is.
use Rattle.std.proofs.Common.{◌≡◌, ◌<◌, ◌≤◌, ◌+◌, ◌%◌, ℕ, zero, suc, Bool, true, false, ◌&&◌, List, Some, refl, sym, ◌∙◌, arith, lt-ltb, le-ltb}
use Rattle.std.specs.Prelude.{nat_lt, find}
use Rattle.pool_base.specs.Sets.{has, IsLowest, IsEmptySet}
use Rattle.pool_base.specs.declared.backend_id.BackendId.{BackendId}
use Rattle.read_balance.specs.Picking.{IsFirstOver, weight_at, weight_below}
use Rattle.session_machine.specs.Answers.{all_backends, is_attached, lowest, is_turn, turn_of}
use Rattle.session_machine.proofs.Backends.{find_first, found_passes}

-- the lowest is the first that is attached
lowest_is : (attached : ℕ) (b : BackendId) → IsLowest attached b.number → lowest attached ≡ Some b
lowest_is attached b is = find_first (is_attached attached) b is.0 (λ c below. is.1 c.number below)

-- a set with a lowest member is not empty
pub has_one : (attached : ℕ) (primary : BackendId) → lowest attached ≡ Some primary → IsEmptySet attached → ⊥
has_one attached primary is empty =
    let there : has attached primary.number ≡ true = found_passes (is_attached attached) all_backends primary is in
    let none : has attached primary.number ≡ false = empty primary.number primary.below_8 in
    absurd (cc)

-- the test of a turn, from its parts
passed : (t : Bool) (rest sum : ℕ) → t ≡ true → rest < sum → (t && nat_lt rest sum) ≡ true
passed true rest sum e h = lt-ltb rest sum h
passed false rest sum e h = absurd (cc)

failed : (t : Bool) (rest sum : ℕ) → (t ≡ true → sum ≤ rest) → (t && nat_lt rest sum) ≡ false
failed true rest sum h = le-ltb rest sum (h refl)
failed false rest sum h = refl

first_turn : (weights : List ℕ) (attached rest : ℕ) (b : BackendId) → IsFirstOver weights attached rest b.number → Some b ≡ find (is_turn weights attached rest) all_backends
first_turn weights attached rest b is =
    sym (find_first (is_turn weights attached rest) b
    (passed (has attached b.number) rest (weight_below weights attached b.number + weight_at weights attached b.number) is.attached_is is.over)
    (λ c below. failed (has attached c.number) rest (weight_below weights attached c.number + weight_at weights attached c.number) (is.first c.number below)))

pub turn_is : (weights : List ℕ) (attached ticket total : ℕ) (primary b : BackendId) → lowest attached ≡ Some primary
    → (total ≡ 0 → IsLowest attached b.number) → (0 < total → IsFirstOver weights attached (ticket % total) b.number)
    → Some b ≡ turn_of weights attached ticket total primary
turn_is weights attached ticket zero primary b first idle turn = sym (lowest_is attached b (idle refl)) ∙ first
turn_is weights attached ticket (suc more) primary b first idle turn = first_turn weights attached (ticket % suc more) b (turn (omega arith))
