-- A wire that is fed in pieces.
use Rattle.std.proofs.Common.{◌≡◌, ℕ, List, ◌++◌, ap}
use Rattle.std.proofs.lemmas.List.{append_assoc}
use Rattle.session_wire.specs.Shown.{View, with_piece}

pub fed_on : (view : View) (a b : List ℕ) → with_piece (with_piece view a) b ≡ with_piece view (a ++ b)
fed_on view a b = ap (λ (z : List ℕ). record view { rest = z }) (append_assoc view.rest a b)
