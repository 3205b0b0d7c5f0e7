use Rattle.session_wire.proofs.Cuts.{fed_on}
use Rattle.session_wire.proofs.laws.pieces_are_one.Goals as goal

pub returns : goal.returns
returns c = record { fed = fed_on c.fronts_stay.ensures.client c.fronts_stay.ensures.start }
