use Rattle.recovery_laws.proofs.Ending.{lock_leaves, number_set, read_next}
use Rattle.recovery_laws.proofs.ends.numbers_are_set.Goals as goal

pub returns-clause-read : goal.returns-clause-read
returns-clause-read c = read_next

pub returns-clause-locked : goal.returns-clause-locked
returns-clause-locked c = lock_leaves

pub returns-clause-set : goal.returns-clause-set
returns-clause-set c = number_set
