use Rattle.shared_gate.proofs.shared_gate.SharedGate.step.Given as goal

abbrev pub ghosts-step_as : goal.ghosts-step_as
ghosts-step_as g a = record { by = a.seat.now.id; call = a.call }
