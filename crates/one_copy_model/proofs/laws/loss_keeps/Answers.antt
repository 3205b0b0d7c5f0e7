use Rattle.one_copy_model.proofs.LossLaws.{loss_kept, loss_alike}
use Rattle.one_copy_model.proofs.laws.loss_keeps.Goals as goal

pub returns-clause-holds : goal.returns-clause-holds
returns-clause-holds c = loss_kept

pub returns-clause-alike : goal.returns-clause-alike
returns-clause-alike c = loss_alike
