use Rattle.std.proofs.Common.{ap, ◌∙◌}
use Rattle.snapshot_gate.specs.Function.{Turn}
use Rattle.world_program.specs.Deciding.{same_gate}
use Rattle.world_program.proofs.gates.answers.Goals as goal

pub returns : goal.returns
returns c = c.same_gate.ensures ∙ ap (λ (turn : Turn). same_gate turn.1 c.args.answer) c.step.ensures
