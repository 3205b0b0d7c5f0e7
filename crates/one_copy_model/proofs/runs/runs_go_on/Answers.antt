use Rattle.one_copy_model.proofs.Endings.{rolled_back}
use Rattle.one_copy_model.proofs.runs.runs_go_on.Goals as goal

pub returns : goal.returns
returns c = λ tables s history run. (rolled_back tables s history run).run
