-- The number of a backend, as the code finds it.
use Rattle.std.proofs.Common.{◌≡◌, ℕ, ℤ, pos, negsuc, ◌<◌, ◌^◌, Bool as Boolean, true, false, cond, List, ◌∷◌, length, suc, Result, Ok, Err, refl, arith}
use Rattle.std.specs.Prelude.{nat_le, unsigned_abs}
use Rattle.std.specs.Int.{FitsUnsignedBits}
use Rattle.std.proofs.lemmas.Bool.{le-leb, leb-true}
use Rattle.sql_tokens.specs.declared.fault.Awaited.TheVariants.{Backend}
use Rattle.sql_tokens.specs.declared.fault.Fault.{Fault}
use Rattle.sql_tokens.specs.declared.fault.Fault.TheVariants.{Syntax}
use Rattle.sql_tokens.specs.declared.token.Token.{Token}
use Rattle.sql_tokens.specs.declared.token.Token.TheVariants as token
use Rattle.sql_reader.specs.Reading.{backend_at}

pub backend_ok : (z : ℤ) (b : ℕ) (ts : List Token) → FitsUnsignedBits 8 z → b ≡ unsigned_abs z → backend_at (token.Number z ∷ ts) ≡ Ok (b, ts)
backend_ok (pos n) b ts f e = rw (e, le-leb n 255 (omega (arith, f))) refl
backend_ok (negsuc n) b ts f e = absurd f

module _ (n : ℕ) (ts : List Token) (large : n < 2 ^ 8 → ⊥) where
  by_test : (b : Boolean) → nat_le n 255 ≡ b → cond {A = Result (ℕ × List Token) Fault} b (Ok (n, ts)) (Err (Syntax (suc (length ts)) Backend)) ≡ Err (Syntax (suc (length ts)) Backend)
  by_test true e = absurd (large (omega (arith, leb-true n 255 e)))
  by_test false e = refl

pub backend_no : (z : ℤ) (ts : List Token) → (FitsUnsignedBits 8 z → ⊥) → backend_at (token.Number z ∷ ts) ≡ Err (Syntax (suc (length ts)) Backend)
backend_no (pos n) ts large = by_test n ts large (nat_le n 255) refl
backend_no (negsuc n) ts large = refl
