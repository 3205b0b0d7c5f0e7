use Rattle.std.proofs.Common.{ap}
use Rattle.snapshot_gate.specs.Function.{Turn}
use Rattle.world_program.proofs.gates.called.Goals as goal

pub returns : goal.returns
returns c = ap (λ (turn : Turn). turn.0) c.step-answer.ensures
