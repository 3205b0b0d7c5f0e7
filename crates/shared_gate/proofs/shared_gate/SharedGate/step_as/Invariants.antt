use Rattle.std.proofs.Common.{◌≡◌}
use Rattle.crossbeam_utils.specs.Seq.{cell_view, IsSamePass}
use Rattle.shared_gate.proofs.shared_gate.SharedGate.step_as.Given as goal

abbrev pub invariant-loop : goal.invariant-loop
invariant-loop g l =
    (goal.iterator-loop g).can_next l.iterator' × (goal.iterator-loop g).is_finite l.iterator' × (cell_view l.seat ≡ cell_view l.initial.seat) × IsSamePass l.initial.seat l.seat
