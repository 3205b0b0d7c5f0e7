use Rattle.session_engine.proofs.Tidying.{replied_tidied, ended_tidied, may_tidied, after_tidied, actions_tidied}
use Rattle.session_engine.proofs.laws.unread_answers_are_dropped.Goals as goal

pub returns-clause-reply : goal.returns-clause-reply
returns-clause-reply c = replied_tidied

pub returns-clause-end : goal.returns-clause-end
returns-clause-end c = ended_tidied

pub returns-clause-may : goal.returns-clause-may
returns-clause-may c = may_tidied

pub returns-clause-leads : goal.returns-clause-leads
returns-clause-leads c = after_tidied

pub returns-clause-acts : goal.returns-clause-acts
returns-clause-acts c = actions_tidied
