use Rattle.std.proofs.Common.{arith}
use Rattle.outcomes.proofs.NextLaws.{next_set_at, set_positive_at}
use Rattle.outcomes.proofs.serials.NextNumbers.set.Goals as goal

pub invariant_of-self : goal.invariant_of-self
invariant_of-self c = record { positive = set_positive_at c.args.self.now.all c.from.result c.args.table c.args.next c.from.ensures (omega arith) c.args.self.now.positive c.requires }

pub returns : goal.returns
returns c = λ i t. next_set_at c.args.self.now.all c.from.result c.args.table c.args.next c.from.ensures (omega arith) t i
