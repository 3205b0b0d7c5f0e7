use Rattle.recovery_laws.proofs.Ending.{commit_answer, commit_ends, commit_next, commit_others, commit_rows}
use Rattle.recovery_laws.proofs.ends.commits_leave_what_is_seen.Goals as goal

pub returns-clause-answer : goal.returns-clause-answer
returns-clause-answer c = commit_answer

pub returns-clause-rows : goal.returns-clause-rows
returns-clause-rows c = commit_rows

pub returns-clause-next : goal.returns-clause-next
returns-clause-next c = commit_next

pub returns-clause-ended : goal.returns-clause-ended
returns-clause-ended c = commit_ends

pub returns-clause-others : goal.returns-clause-others
returns-clause-others c = commit_others
