use Rattle.one_copy_laws.proofs.DetachmentsResults.{result_decided_kept}
use Rattle.one_copy_laws.proofs.detachments.result_decided_keeps.Goals as goal

pub returns : goal.returns
returns c = result_decided_kept
