use Rattle.one_copy_laws.proofs.RepliesReplying.{reply_kept}
use Rattle.one_copy_laws.proofs.replies.reply_keeps.Goals as goal

pub returns : goal.returns
returns c = reply_kept
