use Rattle.backend_trait.proofs.Values.{value_typed}
use Rattle.backend_trait.proofs.types.values_have_their_types.Goals as goal

pub returns : goal.returns
returns c = λ columns row e fit sound. value_typed columns row.cells fit e sound
