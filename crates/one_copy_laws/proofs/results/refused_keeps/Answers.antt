use Rattle.one_copy_laws.proofs.ResultsRefusing.{refused_kept}
use Rattle.one_copy_laws.proofs.results.refused_keeps.Goals as goal

pub returns : goal.returns
returns c = refused_kept
