use Rattle.backend_trait.proofs.Tables.{stay_in}
use Rattle.backend_trait.proofs.effects.writes_stay_in_their_table.Goals as goal

pub returns : goal.returns
returns c = stay_in
