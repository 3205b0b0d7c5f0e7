use Rattle.one_copy_laws.proofs.CommitsEnterCommitLaw.{enter_commit_kept}
use Rattle.one_copy_laws.proofs.commits.enter_commit_keeps.Goals as goal

pub returns : goal.returns
returns c = enter_commit_kept
