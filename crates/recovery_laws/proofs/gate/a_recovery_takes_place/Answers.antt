use Rattle.recovery_laws.proofs.Sampled.{sampled, sampled_attached, not_early}
use Rattle.recovery_laws.proofs.gate.a_recovery_takes_place.Goals as goal

pub returns-clause-played : goal.returns-clause-played
returns-clause-played c = sampled

pub returns-clause-attached : goal.returns-clause-attached
returns-clause-attached c = sampled_attached

pub returns-clause-early : goal.returns-clause-early
returns-clause-early c = not_early
