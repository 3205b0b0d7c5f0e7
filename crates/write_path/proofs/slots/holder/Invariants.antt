use Rattle.write_path.proofs.Holders.{IsBest}
use Rattle.write_path.specs.Slots.{seen_by}
use Rattle.write_path.specs.Kept.{size_at}
use Rattle.write_path.proofs.slots.holder.Given as goal

abbrev pub invariant-loop-at : goal.invariant-loop-at
invariant-loop-at g l = IsBest (size_at g.A.PartialEq.eq (seen_by l.attached.bits l.slots)) l.best l.best_size l.at
