-- The moments that a clock gives.
use Rattle.std.proofs.Common.{◌≡◌, ℕ, ◌+◌, ℤ, List, [], ◌∷◌, ◌++◌, slice_index_or, ap, sym, ◌∙◌, add-one}
use Rattle.std.specs.Prelude.{Some}
use Rattle.pool_base.specs.Moments.{given_of}

pub gives_next : (moments : List ℤ) (last moment : ℤ) (calls next : ℕ) → next ≡ calls + 1 → moment ≡ slice_index_or moments calls last → Some (given_of moments last next) ≡ Some (given_of moments last calls ++ moment ∷ [])
gives_next moments last moment calls next one is =
    ap (λ k. Some (given_of moments last k)) (one ∙ add-one calls) ∙ ap (λ m. Some (given_of moments last calls ++ m ∷ [])) (sym is)
