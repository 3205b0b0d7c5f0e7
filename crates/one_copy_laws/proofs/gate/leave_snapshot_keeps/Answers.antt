use Rattle.one_copy_laws.proofs.GateLeaveLaw.{leave_snapshot_kept}
use Rattle.one_copy_laws.proofs.gate.leave_snapshot_keeps.Goals as goal

pub returns : goal.returns
returns c = leave_snapshot_kept
