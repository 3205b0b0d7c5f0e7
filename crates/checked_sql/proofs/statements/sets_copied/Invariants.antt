use Rattle.std.proofs.Common.{◌≡◌, take}
use Rattle.checked_sql.proofs.statements.sets_copied.Given as goal

abbrev pub invariant-loop-set : goal.invariant-loop-set
invariant-loop-set l = l.made ≡ take l.set-index l.set-items
