use Rattle.recovery_laws.proofs.Layer.{served_only, served_all, served_same}
use Rattle.recovery_laws.proofs.gate.without_recoveries.Goals as goal

pub returns-clause-only : goal.returns-clause-only
returns-clause-only c = served_only

pub returns-clause-all : goal.returns-clause-all
returns-clause-all c = served_all

pub returns-clause-same : goal.returns-clause-same
returns-clause-same c = served_same
