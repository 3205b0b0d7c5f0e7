use Rattle.std.proofs.Common.{refl, arith, length-append}
use Rattle.plain_store.proofs.BlankLaws.{all_snoc}
use Rattle.world_program.proofs.first.untaken.Goals as goal

pub loop-init : goal.loop-init
loop-init c = rw c.new-all.ensures.items (record { len = refl; all = tt })

pub loop-preserved : goal.loop-preserved
loop-preserved c = rw c.in_ok-push.ensures.items (record {
  len = simp length-append (omega (arith, c.loop.invariant.len));
  all = all_snoc _ _ _ c.loop.invariant.all refl;
})
