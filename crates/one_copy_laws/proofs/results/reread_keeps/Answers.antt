use Rattle.one_copy_laws.proofs.ResultsRereading.{reread_kept}
use Rattle.one_copy_laws.proofs.results.reread_keeps.Goals as goal

pub returns : goal.returns
returns c = reread_kept
