use Rattle.one_copy_laws.proofs.ResultsReadLaw.{read_kept}
use Rattle.one_copy_laws.proofs.results.read_keeps.Goals as goal

pub returns : goal.returns
returns c = read_kept
