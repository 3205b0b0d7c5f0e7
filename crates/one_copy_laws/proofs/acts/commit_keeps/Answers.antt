use Rattle.one_copy_laws.proofs.ActsCommitting.{commit_kept}
use Rattle.one_copy_laws.proofs.acts.commit_keeps.Goals as goal

pub returns : goal.returns
returns c = commit_kept
