use Rattle.recovery_laws.proofs.Emptying.{delete_leaves}
use Rattle.recovery_laws.proofs.copies.deletes_empty_the_table.Goals as goal

pub returns : goal.returns
returns c = delete_leaves
