use Rattle.std.proofs.Common.{◌≡◌}
use Rattle.gate_run.specs.Work.{IsOutAt}
use Rattle.gate_run.proofs.shared.work.Given as goal

abbrev pub invariant-loop : goal.invariant-loop
invariant-loop g l = IsOutAt l.gate l.pass
