use Rattle.outcomes.proofs.Chained.{made_new, none_sorted}
use Rattle.outcomes.proofs.layers.Layers.new.Goals as goal

pub put_all-requires : goal.put_all-requires
put_all-requires c = none_sorted c.new-own.result.items c.new-own.ensures.items

pub invariant_of-result-clause-made : goal.invariant_of-result-clause-made
invariant_of-result-clause-made c = made_new c.args.changes.now c.new-own.result.items c.put_all.new.chains.items c.new-own.ensures.items c.in_ok-put_all.ensures
