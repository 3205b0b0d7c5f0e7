use Rattle.one_copy_laws.proofs.ActsLaws.{act_kept}
use Rattle.one_copy_laws.proofs.acts.act_keeps.Goals as goal

pub returns : goal.returns
returns c = act_kept
