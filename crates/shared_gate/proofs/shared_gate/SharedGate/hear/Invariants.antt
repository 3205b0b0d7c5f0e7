use Rattle.pool_base.specs.declared.gate_call.GateCall.TheVariants.{Look}
use Rattle.shared_gate.proofs.shared_gate.SharedGate.hear.Given as goal

abbrev pub ghosts-hear_as : goal.ghosts-hear_as
ghosts-hear_as g a = record { by = a.seat.now.id; call = Look }
