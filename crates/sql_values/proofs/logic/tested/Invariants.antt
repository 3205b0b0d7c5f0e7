use Rattle.std.proofs.Common.{◌≡◌, drop}
use Rattle.sql_values.specs.Logic.{tested}
use Rattle.sql_values.proofs.logic.tested.Given as goal

abbrev pub invariant-loop-negated : goal.invariant-loop-negated
invariant-loop-negated l = tested l.value (drop l.negated-index l.tests) ≡ tested l.fn.value l.tests
