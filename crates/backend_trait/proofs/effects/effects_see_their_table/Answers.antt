use Rattle.backend_trait.proofs.Seen.{same_effect}
use Rattle.backend_trait.proofs.effects.effects_see_their_table.Goals as goal

pub returns : goal.returns
returns c = same_effect
