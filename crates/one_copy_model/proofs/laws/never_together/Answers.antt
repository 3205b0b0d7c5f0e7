use Rattle.one_copy_model.proofs.Schedules.{apart}
use Rattle.one_copy_model.proofs.laws.never_together.Goals as goal

pub returns : goal.returns
returns c = apart
