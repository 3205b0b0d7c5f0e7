use Rattle.std.proofs.Common.{take}
use Rattle.std.specs.Prelude.{T}
use Rattle.std.specs.FinMap.{is_sorted}
use Rattle.backend_trait.specs.Keys.{place_order}
use Rattle.outcomes.specs.Chains.{AreOfSets, all_chained}
use Rattle.outcomes.proofs.index.put_sets.Given as goal

abbrev pub invariant-loop-set : goal.invariant-loop-set
invariant-loop-set l = record {
  sorted : T (is_sorted place_order (all_chained l.chains.items));
  sets : AreOfSets (all_chained l.chains.items) (take l.set l.log);
}
