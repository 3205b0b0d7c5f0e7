use Rattle.session_ahead.proofs.Staying.{fronts}
use Rattle.session_ahead.proofs.laws.only_fronts_are_posted.Goals as goal

pub returns : goal.returns
returns c = fronts
