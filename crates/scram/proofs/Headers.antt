-- The two headers in base64.
use Rattle.std.proofs.Common.{◌≡◌, codes, refl}
use Rattle.base64.proofs.OnLiterals.{base64_on_literals}
use Rattle.scram.specs.declared.binding.Binding.TheVariants.{Unable, Unoffered}
use Rattle.scram.specs.Words.{in_base64}
use Rattle.scram.specs.Messages.{header_of}

pub unable_code : codes "biws" ≡ in_base64 (header_of Unable)
unfolding in_base64 base64_on_literals
unable_code = refl

pub unoffered_code : codes "eSws" ≡ in_base64 (header_of Unoffered)
unfolding in_base64 base64_on_literals
unoffered_code = refl
