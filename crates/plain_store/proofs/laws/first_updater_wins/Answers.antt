use Rattle.backend_trait.specs.Acts.{IsCrossed}
use Rattle.plain_store.proofs.LawLemmas.{no_choice}
use Rattle.plain_store.proofs.laws.first_updater_wins.Goals as goal

pub returns : goal.returns
returns c = λ st s p. no_choice st s (IsCrossed st s p)
