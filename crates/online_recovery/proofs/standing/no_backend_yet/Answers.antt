use Rattle.std.proofs.Common.{refl}
use Rattle.session_machine.proofs.Backends.{same_backend}
use Rattle.online_recovery.proofs.standing.no_backend_yet.Goals as goal

pub returns : goal.returns
returns c = same_backend _ _ refl
