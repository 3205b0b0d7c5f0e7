use Rattle.recovery_laws.proofs.Filled.{copied, still_stored}
use Rattle.recovery_laws.proofs.copies.full_tables_are_copied.Goals as goal

pub returns-clause-copied : goal.returns-clause-copied
returns-clause-copied c = copied

pub returns-clause-stored : goal.returns-clause-stored
returns-clause-stored c = still_stored
