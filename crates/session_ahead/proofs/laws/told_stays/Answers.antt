use Rattle.session_ahead.proofs.Staying.{stays}
use Rattle.session_ahead.proofs.laws.told_stays.Goals as goal

pub returns : goal.returns
returns c = stays
