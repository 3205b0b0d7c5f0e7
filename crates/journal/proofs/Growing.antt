-- A text that grows by one piece after another.
use Rattle.std.proofs.Common.{◌≡◌, ℕ, List, ◌++◌, OnOk, Ok, Err, ap, ◌∙◌, append_assoc}
use Rattle.std.specs.Prelude.{Result}

pub grown : (old one two middle new : List ℕ) → middle ≡ old ++ one → new ≡ middle ++ two → new ≡ old ++ (one ++ two)
grown old one two middle new first second = second ∙ ap (λ m. m ++ two) first ∙ append_assoc old one two

-- what holds where a call succeeds, and what follows from it
pub onward : {T E : Type 0} {P Q : Type 0} (result : Result T E) → OnOk result P → (P → Q) → OnOk result Q
onward (Ok x) p f = f p
onward (Err e) p f = p
