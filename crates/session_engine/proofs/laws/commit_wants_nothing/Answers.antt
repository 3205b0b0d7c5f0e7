use Rattle.session_engine.proofs.Committing.{goes_on_at, entered_commits, under_way_wants_nothing, over_wants_nothing}
use Rattle.session_engine.proofs.laws.commit_wants_nothing.Goals as goal

pub returns-clause-entered : goal.returns-clause-entered
returns-clause-entered c = entered_commits

pub returns-clause-goes_on : goal.returns-clause-goes_on
returns-clause-goes_on c = goes_on_at

pub returns-clause-under_way : goal.returns-clause-under_way
returns-clause-under_way c = under_way_wants_nothing

pub returns-clause-over : goal.returns-clause-over
returns-clause-over c = over_wants_nothing
