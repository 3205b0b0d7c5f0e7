use Rattle.model_store.proofs.WorkLaws.{none_at}
use Rattle.model_store.proofs.cycle.nobody.Goals as goal

pub returns-clause-none : goal.returns-clause-none
returns-clause-none c = none_at 65
