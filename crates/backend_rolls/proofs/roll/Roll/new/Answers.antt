use Rattle.backend_rolls.proofs.RollLemmas.{entries_same}
use Rattle.backend_rolls.proofs.roll.Roll.new.Goals as goal

pub returns : goal.returns
returns c = λ s. entries_same c.nothing-known.result 65 s c.nothing-known.ensures
