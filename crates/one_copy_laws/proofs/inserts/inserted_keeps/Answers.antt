use Rattle.one_copy_laws.proofs.InsertsLookLaw.{inserted_kept}
use Rattle.one_copy_laws.proofs.inserts.inserted_keeps.Goals as goal

pub returns : goal.returns
returns c = inserted_kept
