use Rattle.one_copy_laws.proofs.DetachmentsDetaching.{detached_kept}
use Rattle.one_copy_laws.proofs.detachments.detached_keeps.Goals as goal

pub returns : goal.returns
returns c = detached_kept
