use Rattle.recovery_laws.proofs.Filled.{next_leaves}
use Rattle.recovery_laws.proofs.copies.inserts_fill_the_table.Goals as goal

pub returns : goal.returns
returns c = next_leaves
