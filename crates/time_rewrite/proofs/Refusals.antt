-- What is taken was in range, and is no refusal.
use Rattle.std.proofs.Common.{◌≡◌, ◌↔◌}
use Rattle.std.specs.Prelude.{Result, Ok, Err}
use Rattle.time_rewrite.specs.declared.fault.RewriteFault.{RewriteFault}
use Rattle.time_rewrite.specs.declared.fault.RewriteFault.TheVariants.{MomentOutOfRange}

pub taken : {X P : Type 0} (answer : Result X RewriteFault) (x : X) → answer ≡ Ok x → P → ((answer ≡ Err MomentOutOfRange) ↔ ¬ P)
taken {X} {P} answer x is within = (only, λ out. absurd (out within))
  where
    only : answer ≡ Err MomentOutOfRange → ¬ P
    only refused = let never : ⊥ = cc in absurd never
