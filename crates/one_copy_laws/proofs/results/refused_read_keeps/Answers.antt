use Rattle.one_copy_laws.proofs.ResultsRefusing.{refused_read_kept}
use Rattle.one_copy_laws.proofs.results.refused_read_keeps.Goals as goal

pub returns : goal.returns
returns c = refused_read_kept
