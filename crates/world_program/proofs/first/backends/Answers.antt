use Rattle.std.proofs.Common.{refl, arith, length-append}
use Rattle.world_program.proofs.Beginning.{prepared_snoc}
use Rattle.world_program.proofs.first.backends.Goals as goal

pub loop-init : goal.loop-init
loop-init c = rw c.new-all.ensures.items (record { len = refl; all = tt })

pub loop-preserved : goal.loop-preserved
loop-preserved c = rw c.in_ok-push.ensures.items (record {
  len = simp length-append (omega (arith, c.loop.invariant.len));
  all = prepared_snoc c.args.tables.now _ _ c.loop.invariant.all (record { store = c.in_ok-replica.ensures.store; mail = c.in_ok-replica.ensures.mail });
})
