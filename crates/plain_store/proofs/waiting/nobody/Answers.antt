use Rattle.plain_store.proofs.WaitLaws.{none_at}
use Rattle.plain_store.proofs.waiting.nobody.Goals as goal

pub returns-clause-none : goal.returns-clause-none
returns-clause-none c = none_at 65
