-- What is printed of a moment is found again behind the text of a value.
use Rattle.std.proofs.Common.{◌≡◌, ℕ, ℤ, List, Option, Some, sym, ◌∙◌, subst}
use Rattle.pg_values.specs.Moments.{IsPrintedMoment}

pub found : (m : ℤ) (text : Option (List ℕ)) (second : List ℕ) → text ≡ Some second → ((printed : List ℕ) × (text ≡ Some printed) × IsPrintedMoment m printed)
    → (x : ℤ) × IsPrintedMoment x second
found m text second e h =
    let both : Some h.0 ≡ Some second = sym h.1 ∙ e in
    let same : h.0 ≡ second = cc in (m, subst (IsPrintedMoment m) same h.2)
