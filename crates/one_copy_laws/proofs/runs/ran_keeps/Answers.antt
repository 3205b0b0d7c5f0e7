use Rattle.one_copy_laws.proofs.RunsRunLaw.{ran_kept}
use Rattle.one_copy_laws.proofs.runs.ran_keeps.Goals as goal

pub returns : goal.returns
returns c = ran_kept
