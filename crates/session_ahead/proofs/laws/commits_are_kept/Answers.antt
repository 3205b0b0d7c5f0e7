use Rattle.session_ahead.proofs.Kept.{commits_kept}
use Rattle.session_ahead.proofs.laws.commits_are_kept.Goals as goal

pub returns : goal.returns
returns c = commits_kept
