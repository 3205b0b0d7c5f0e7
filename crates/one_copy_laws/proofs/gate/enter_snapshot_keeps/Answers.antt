use Rattle.one_copy_laws.proofs.GateEnterLaw.{enter_snapshot_kept}
use Rattle.one_copy_laws.proofs.gate.enter_snapshot_keeps.Goals as goal

pub returns : goal.returns
returns c = enter_snapshot_kept
