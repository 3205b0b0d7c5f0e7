use Rattle.snapshot_gate.proofs.Apart.{always_apart}
use Rattle.snapshot_gate.proofs.laws.never_together.Goals as goal

pub returns : goal.returns
returns c = record { apart = always_apart }
