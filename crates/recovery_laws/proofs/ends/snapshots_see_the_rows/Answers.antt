use Rattle.recovery_laws.proofs.Ending.{snapshot_left, snapshot_sees}
use Rattle.recovery_laws.proofs.ends.snapshots_see_the_rows.Goals as goal

pub returns-clause-sees : goal.returns-clause-sees
returns-clause-sees c = snapshot_sees

pub returns-clause-left : goal.returns-clause-left
returns-clause-left c = snapshot_left
