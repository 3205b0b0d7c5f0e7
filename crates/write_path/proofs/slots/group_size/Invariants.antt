use Rattle.std.proofs.Common.{◌≡◌, ◌≤◌}
use Rattle.write_path.specs.Slots.{seen_by}
use Rattle.write_path.specs.Kept.{count_below, is_like}
use Rattle.write_path.proofs.slots.group_size.Given as goal

abbrev pub invariant-loop-at : goal.invariant-loop-at
invariant-loop-at g l = record {
  counted : l.size ≡ count_below l.at (is_like g.A.PartialEq.eq (seen_by l.attached.bits l.slots) l.answer);
  small : l.size ≤ l.at;
}
