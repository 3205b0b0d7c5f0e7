use Rattle.one_copy_model.proofs.Schedules.{none_fails, one_fails, some_fails}
use Rattle.one_copy_model.proofs.laws.one_first_failure.Goals as goal

pub returns : goal.returns
returns c = record { none = none_fails; one = one_fails; some = some_fails }
