use Rattle.recovery_laws.proofs.Reading.{read_left, rows_answered}
use Rattle.recovery_laws.proofs.copies.reads_list_the_table.Goals as goal

pub returns-clause-answer : goal.returns-clause-answer
returns-clause-answer c = rows_answered

pub returns-clause-left : goal.returns-clause-left
returns-clause-left c = read_left
