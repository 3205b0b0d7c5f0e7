use Rattle.one_copy_model.proofs.InvariantLaws.{holds_first, alike_first}
use Rattle.one_copy_model.proofs.laws.starts_right.Goals as goal

pub returns-clause-holds : goal.returns-clause-holds
returns-clause-holds c = holds_first

pub returns-clause-alike : goal.returns-clause-alike
returns-clause-alike c = alike_first
