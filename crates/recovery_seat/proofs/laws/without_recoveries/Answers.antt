use Rattle.recovery_seat.proofs.Sessions.{is_of_sessions, same_lines}
use Rattle.recovery_seat.proofs.laws.without_recoveries.Goals as goal

pub returns-clause-plays : goal.returns-clause-plays
returns-clause-plays c = is_of_sessions

pub returns-clause-told : goal.returns-clause-told
returns-clause-told c = same_lines
