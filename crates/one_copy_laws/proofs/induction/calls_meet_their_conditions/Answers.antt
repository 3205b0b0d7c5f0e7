use Rattle.one_copy_laws.proofs.InductionCalls.{call_met}
use Rattle.one_copy_laws.proofs.induction.calls_meet_their_conditions.Goals as goal

pub returns : goal.returns
returns c = call_met
