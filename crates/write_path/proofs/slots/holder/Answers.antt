use Rattle.std.proofs.Common.{arith}
use Rattle.write_path.specs.Slots.{seen_by}
use Rattle.write_path.proofs.Holders.{holds}
use Rattle.write_path.proofs.slots.holder.Goals as goal

pub returns : goal.returns
returns g c =
    let (k, below, has) = c.requires.some in
    holds g.A.PartialEq.eq g.met.A.Eq.laws.refl (seen_by c.args.attached.bits c.args.slots.now) c.loop-at.best c.loop-at.best_size c.loop-at.at c.loop-at.invariant (omega arith) k below has
