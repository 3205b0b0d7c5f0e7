use Rattle.std.proofs.Common.{take}
use Rattle.outcomes.specs.Chains.{ArePut, all_chained}
use Rattle.outcomes.proofs.index.put_all.Given as goal

abbrev pub invariant-loop-change : goal.invariant-loop-change
invariant-loop-change l = ArePut l.set (take l.change-index l.changes) (all_chained l.fn.chains.items) (all_chained l.chains.items)
