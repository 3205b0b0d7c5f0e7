use Rattle.one_copy_laws.proofs.DetachmentsAgreeing.{reads_agreed}
use Rattle.one_copy_laws.proofs.detachments.reads_agree.Goals as goal

pub returns : goal.returns
returns c = reads_agreed
