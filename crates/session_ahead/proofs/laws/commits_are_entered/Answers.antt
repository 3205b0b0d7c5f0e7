use Rattle.session_ahead.proofs.Entering.{entries, nothings}
use Rattle.session_ahead.proofs.Primary.{commits}
use Rattle.session_ahead.proofs.laws.commits_are_entered.Goals as goal

pub returns-clause-coming : goal.returns-clause-coming
returns-clause-coming c = commits

pub returns-clause-entry : goal.returns-clause-entry
returns-clause-entry c = entries

pub returns-clause-nothing : goal.returns-clause-nothing
returns-clause-nothing c = nothings
