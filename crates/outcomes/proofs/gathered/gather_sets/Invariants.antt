use Rattle.std.proofs.Common.{◌≡◌, ◌++◌, map, drop, Bor}
use Rattle.sql_eval.specs.declared.effect.Change.{Change}
use Rattle.outcomes.specs.Gathered.{changes_in}
use Rattle.outcomes.proofs.gathered.gather_sets.Given as goal

abbrev pub invariant-loop-set : goal.invariant-loop-set
invariant-loop-set l = map (λ (c : Bor Change). c.now) l.all.items ++ changes_in (drop l.set-index l.log) ≡ changes_in l.log
