use Rattle.std.proofs.Common.{◌≡◌, take}
use Rattle.sql_tree.proofs.copying.+copying.Given as goal

abbrev pub invariant-copied_all-loop-part : goal.invariant-copied_all-loop-part
invariant-copied_all-loop-part l = l.copies ≡ take l.part-index l.part-items

abbrev pub invariant-copied_product-loop-part : goal.invariant-copied_product-loop-part
invariant-copied_product-loop-part l = l.copies ≡ take l.part-index l.part-items

abbrev pub invariant-copied_sum-loop-part : goal.invariant-copied_sum-loop-part
invariant-copied_sum-loop-part l = l.copies ≡ take l.part-index l.part-items
