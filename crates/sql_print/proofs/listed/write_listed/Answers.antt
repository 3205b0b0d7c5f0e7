use Rattle.std.proofs.Common.{arith}
use Rattle.sql_print.specs.declared.between.Between.TheVariants.{Comma}
use Rattle.sql_print.specs.Writing.{state}
use Rattle.sql_print.proofs.Steps.{joined_next}
use Rattle.sql_print.proofs.listed.write_listed.Goals as goal

pub loop-item-preserved : goal.loop-item-preserved
loop-item-preserved g c = joined_next Comma g.T.Written.tokens (state c.args.onto.now) (state c.loop-item.onto)
    (state c.write_before.new.onto) (state c.write.new.onto) c.args.items.now c.loop-item.item-index c.item-item.result c.item-item.result
    c.loop-item.before (omega arith) c.item-item.is c.loop-item.invariant c.in_ok-write_before.ensures c.in_ok-write.ensures
