use Rattle.recovery_laws.proofs.Drawing.{row_locks}
use Rattle.recovery_laws.proofs.Running.{deletes_run, inserts_run, reads_run}
use Rattle.recovery_laws.proofs.copies.copies_can_be_run.Goals as goal

pub returns-clause-rows : goal.returns-clause-rows
returns-clause-rows c = reads_run

pub returns-clause-none : goal.returns-clause-none
returns-clause-none c = deletes_run

pub returns-clause-row : goal.returns-clause-row
returns-clause-row c = inserts_run

pub returns-clause-unlocked : goal.returns-clause-unlocked
returns-clause-unlocked c = row_locks
