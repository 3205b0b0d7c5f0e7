use Rattle.one_copy_laws.proofs.RepliesReplying.{end_kept}
use Rattle.one_copy_laws.proofs.replies.end_keeps.Goals as goal

pub returns : goal.returns
returns c = end_kept
