use Rattle.one_copy_laws.proofs.DetachmentsRefuses.{refuses_decided_kept}
use Rattle.one_copy_laws.proofs.detachments.refuses_decided_keeps.Goals as goal

pub returns : goal.returns
returns c = refuses_decided_kept
