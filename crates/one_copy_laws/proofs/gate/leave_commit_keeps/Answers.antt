use Rattle.one_copy_laws.proofs.GateFinishing.{leave_commit_kept}
use Rattle.one_copy_laws.proofs.gate.leave_commit_keeps.Goals as goal

pub returns : goal.returns
returns c = leave_commit_kept
