-- A code is its bytes.
use Rattle.std.proofs.Common.{◌≡◌}
use mathlib.Core.HLevel.{is_prop→PathP}
use mathlib.Core.Logic.{∥∥₁_prop}
use Rattle.pool_base.specs.Codes.{IsCode}
use Rattle.pool_base.specs.declared.code.Code.{Code}

pub same_code : (a b : Code) → a.bytes ≡ b.bytes → a ≡ b
same_code a b e = λ i. record { bytes = e i; spelled = is_prop→PathP (λ j. ∥ IsCode (e j) ∥₁) (λ j. ∥∥₁_prop) a.spelled b.spelled i }
