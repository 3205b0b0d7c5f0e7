use Rattle.one_copy_laws.proofs.ActsResulting.{result_kept}
use Rattle.one_copy_laws.proofs.acts.result_keeps.Goals as goal

pub returns : goal.returns
returns c = result_kept
