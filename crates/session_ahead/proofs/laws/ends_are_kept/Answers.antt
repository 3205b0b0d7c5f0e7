use Rattle.session_ahead.proofs.Kept.{rollbacks_kept}
use Rattle.session_ahead.proofs.laws.ends_are_kept.Goals as goal

pub returns : goal.returns
returns c = rollbacks_kept
