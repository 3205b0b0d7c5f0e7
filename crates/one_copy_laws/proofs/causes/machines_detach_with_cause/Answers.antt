use Rattle.one_copy_laws.proofs.CausesAlways.{with_cause}
use Rattle.one_copy_laws.proofs.causes.machines_detach_with_cause.Goals as goal

pub returns : goal.returns
returns c = with_cause
