use Rattle.std.proofs.Common.{arith}
use Rattle.write_path.proofs.Splits.{none_past}
use Rattle.write_path.proofs.slots.clear.Goals as goal

pub returns-clause-none : goal.returns-clause-none
returns-clause-none g c = none_past c.loop-slot.slots (λ k below. c.loop-slot.invariant k (omega arith))
