use Rattle.one_copy_laws.proofs.InductionEvents.{event_kept}
use Rattle.one_copy_laws.proofs.induction.every_event_keeps.Goals as goal

pub returns : goal.returns
returns c = event_kept
