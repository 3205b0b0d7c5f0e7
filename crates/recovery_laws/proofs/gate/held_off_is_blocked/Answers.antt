use Rattle.recovery_laws.proofs.Waited as waited
use Rattle.recovery_laws.proofs.gate.held_off_is_blocked.Goals as goal

pub returns-clause-held : goal.returns-clause-held
returns-clause-held c = waited.held

pub returns-clause-blocked : goal.returns-clause-blocked
returns-clause-blocked c = waited.blocked
