use Rattle.std.proofs.Common.{arith}
use Rattle.outcomes.proofs.Chained.{none_chained}
use Rattle.outcomes.proofs.index.Index.new.Goals as goal

pub returns : goal.returns
returns c = λ log. (omega arith, λ mark. none_chained c.new.result.items mark c.new.ensures.items)
