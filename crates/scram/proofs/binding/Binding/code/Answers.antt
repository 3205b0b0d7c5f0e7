use Rattle.std.proofs.Common.{◌∙◌, ap, sym}
use Rattle.scram.specs.declared.binding.Binding.{Binding}
use Rattle.scram.specs.Words.{in_base64}
use Rattle.scram.specs.Messages.{header_of}
use Rattle.scram.proofs.Headers.{unable_code, unoffered_code}
use Rattle.scram.proofs.binding.Binding.code.Goals as goal

pub returns-in-Unable : goal.returns-in-Unable
returns-in-Unable c = unable_code ∙ ap (λ (b : Binding). in_base64 (header_of b)) (sym c.in-Unable.is)

pub returns-in-Unoffered : goal.returns-in-Unoffered
returns-in-Unoffered c = unoffered_code ∙ ap (λ (b : Binding). in_base64 (header_of b)) (sym c.in-Unoffered.is)
