use Rattle.std.proofs.Common.{rules, ◌∙◌, sym}
use Rattle.shared_gate.proofs.Passes.{listens_as}
use Rattle.shared_gate.proofs.shared_gate.SharedGate.hear_as.Goals as goal

pub load_as-requires : goal.load_as-requires
load_as-requires g c = (search rules, (search rules, (c.requires.gate ∙ sym c.self.view_is, listens_as _ _ _ c.requires.asking c.requires.admitted)))
