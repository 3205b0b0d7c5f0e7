use Rattle.std.proofs.Common.{◌≡◌, take}
use Rattle.checked_sql.proofs.expressions.+copying.Given as goal

abbrev pub invariant-exprs_copied-loop-part : goal.invariant-exprs_copied-loop-part
invariant-exprs_copied-loop-part l = l.made ≡ take l.part-index l.part-items

abbrev pub invariant-summands_copied-loop-part : goal.invariant-summands_copied-loop-part
invariant-summands_copied-loop-part l = l.made ≡ take l.part-index l.part-items

abbrev pub invariant-factors_copied-loop-part : goal.invariant-factors_copied-loop-part
invariant-factors_copied-loop-part l = l.made ≡ take l.part-index l.part-items
