use Rattle.std.proofs.Common.{◌≡◌}
use Rattle.shared_gate.specs.History.{stand_of, copy_of}
use Rattle.gate_run.proofs.shared.until_granted.Given as goal

abbrev pub invariant-loop : goal.invariant-loop
invariant-loop g l =
    (goal.iterator-loop g).can_next l.iterator' × (goal.iterator-loop g).is_finite l.iterator' × (l.pass.gate ≡ l.initial.pass.gate)
    × (stand_of l.pass.mine ≡ stand_of l.initial.pass.mine) × (copy_of l.pass.mine ≡ copy_of l.initial.pass.mine)
