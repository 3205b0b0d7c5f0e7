use Rattle.std.proofs.Common.{ap, sym, ◌∙◌}
use Rattle.outcomes.specs.declared.change.ChangeSet.{ChangeSet}
use Rattle.outcomes.specs.Chains.{all_chained}
use Rattle.outcomes.proofs.Chained.{set_taken}
use Rattle.outcomes.proofs.index.put_sets.Goals as goal

pub loop-set-preserved : goal.loop-set-preserved
loop-set-preserved c = record {
  sorted = c.in_ok-put_all.ensures.sorted;
  sets =
      set_taken c.args.log.now c.loop-set.set c.index-log-set.result c.as_slice.result.now (all_chained c.loop-set.chains.items) (all_chained c.put_all.new.chains.items)
      c.loop-set-test.true c.index-log-set.is (c.as_slice.ensures.value ∙ ap (λ (set : ChangeSet). set.changes.items) (sym c.index-log-set.is)) c.loop-set.invariant.sets c.in_ok-put_all.ensures;
}
