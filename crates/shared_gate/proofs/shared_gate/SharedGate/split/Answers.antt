use Rattle.std.proofs.Common.{rules, ◌∙◌, sym, ap}
use Rattle.shared_gate.specs.History.{Known}
use Rattle.shared_gate.proofs.Passes.{forks}
use Rattle.shared_gate.proofs.shared_gate.SharedGate.split.Goals as goal

pub split_pass-requires : goal.split_pass-requires
split_pass-requires c = (search rules, (search rules, (ap (λ (k : Known). k.gate) c.pass.view_is ∙ (c.requires.gate ∙ sym c.self.view_is), forks _ _ c.pass.invariant.0)))
