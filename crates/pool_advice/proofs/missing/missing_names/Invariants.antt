use Rattle.pool_advice.proofs.Giving.{So}
use Rattle.pool_advice.proofs.missing.missing_names.Given as goal

abbrev pub invariant-loop : goal.invariant-loop
invariant-loop l = So l.text l.all l.names
