use Rattle.recovery_laws.proofs.Holding.{rows_right, numbers_right}
use Rattle.recovery_laws.proofs.steps.bases_are_right.Goals as goal

pub returns-clause-rows : goal.returns-clause-rows
returns-clause-rows c = rows_right

pub returns-clause-numbers : goal.returns-clause-numbers
returns-clause-numbers c = numbers_right
