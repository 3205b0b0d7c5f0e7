use Rattle.recovery_laws.proofs.Drawing.{deletes_undrawn, inserts_undrawn, reads_undrawn}
use Rattle.recovery_laws.proofs.copies.copies_draw_no_numbers.Goals as goal

pub returns-clause-rows : goal.returns-clause-rows
returns-clause-rows c = reads_undrawn

pub returns-clause-none : goal.returns-clause-none
returns-clause-none c = deletes_undrawn

pub returns-clause-row : goal.returns-clause-row
returns-clause-row c = inserts_undrawn
