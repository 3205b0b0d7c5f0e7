use Rattle.tcp_link.proofs.HeldBack.{no_wait, one_answer, same_end}
use Rattle.tcp_link.proofs.holding.ends_may_be_held_back.Goals as goal

pub returns-clause-one : goal.returns-clause-one
returns-clause-one c = one_answer

pub returns-clause-prompt : goal.returns-clause-prompt
returns-clause-prompt c = no_wait

pub returns-clause-unseen : goal.returns-clause-unseen
returns-clause-unseen c = same_end
