-- The marks of the seats: none at the start, and one that is written.
use Rattle.std.proofs.Common.{◌≡◌, ℕ, zero, suc, ◌<◌, Bool, false, List, length, get_or, set, replicate, refl, sym, ap, ◌∙◌, subst, inl, inr}
use Rattle.std.specs.Prelude.{if◌then◌else◌}
use Rattle.std.proofs.lemmas.List.{get_or-set_same, get_or-set_other}
use Rattle.std.proofs.lemmas.Bool.Decides.{eqb_tells}
use Rattle.pool_server.specs.Seats.{Differs}

pub none_taken : (n m : ℕ) → get_or (replicate n false) m false ≡ false
none_taken zero m = refl
none_taken (suc n) zero = refl
none_taken (suc n) (suc m) = none_taken n m

pub one_written : (taken : List Bool) (n : ℕ) (to : Bool) → n < length taken → Differs taken (set taken n to) n to
one_written taken n to below m = elim (eqb_tells m n) [
  | inl p ↦ subst (λ (k : ℕ). get_or (set taken n to) k false ≡ to) (sym p.1) (get_or-set_same taken n to false below) ∙ sym (ap (λ (b : Bool). if b then to else get_or taken m false) p.0)
  | inr p ↦ get_or-set_other taken n m to false p.1 ∙ sym (ap (λ (b : Bool). if b then to else get_or taken m false) p.0)
]
