use Rattle.std.proofs.Common.{◌≡◌, map, take}
use Rattle.time_rewrite.specs.Rewriting.{set_at}
use Rattle.time_rewrite.proofs.statement.sets_at.Given as goal

abbrev pub invariant-loop-set : goal.invariant-loop-set
invariant-loop-set l = l.made ≡ map (set_at l.moment) (take l.set-index l.set-items)
