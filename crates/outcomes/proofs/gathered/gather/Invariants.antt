use Rattle.std.proofs.Common.{◌≡◌, ◌++◌, map, take, Bor}
use Rattle.sql_eval.specs.declared.effect.Change.{Change}
use Rattle.outcomes.proofs.gathered.gather.Given as goal

abbrev pub invariant-loop-change : goal.invariant-loop-change
invariant-loop-change l = map (λ (c : Bor Change). c.now) l.all.items ≡ map (λ (c : Bor Change). c.now) l.fn.all.items ++ take l.change-index l.changes
