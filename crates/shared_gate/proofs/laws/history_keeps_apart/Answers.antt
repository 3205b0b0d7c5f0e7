use Rattle.shared_gate.proofs.Apart.{replay_apart}
use Rattle.shared_gate.proofs.laws.history_keeps_apart.Goals as goal

pub returns : goal.returns
returns c = record { apart = replay_apart }
