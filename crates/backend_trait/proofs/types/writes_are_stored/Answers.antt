use Rattle.backend_trait.proofs.LeftRows.{all_stored}
use Rattle.backend_trait.proofs.types.writes_are_stored.Goals as goal

pub returns : goal.returns
returns c = all_stored
