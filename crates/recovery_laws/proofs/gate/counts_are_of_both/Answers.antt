use Rattle.recovery_laws.proofs.Counting.{always_both}
use Rattle.recovery_laws.proofs.gate.counts_are_of_both.Goals as goal

pub returns : goal.returns
returns c = always_both
