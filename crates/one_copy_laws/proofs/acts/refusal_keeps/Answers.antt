use Rattle.one_copy_laws.proofs.ActsRefusals.{refusal_kept}
use Rattle.one_copy_laws.proofs.acts.refusal_keeps.Goals as goal

pub returns : goal.returns
returns c = refusal_kept
