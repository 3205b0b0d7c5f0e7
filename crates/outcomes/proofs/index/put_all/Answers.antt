use Rattle.outcomes.specs.Chains.{all_chained}
use Rattle.outcomes.proofs.Chained.{none_put, one_put_more}
use Rattle.outcomes.proofs.index.put_all.Goals as goal

pub loop-change-init : goal.loop-change-init
loop-change-init c = none_put c.args.set (all_chained c.args.chains.now.items) c.requires

pub loop-change-preserved : goal.loop-change-preserved
loop-change-preserved c =
    one_put_more c.args.set c.args.changes.now c.loop-change.change-index c.change-item.result (all_chained c.args.chains.now.items) (all_chained c.loop-change.chains.items)
    (all_chained c.put.new.chains.items) c.loop-change-test.true c.change-item.is c.loop-change.invariant c.in_ok-put.ensures
