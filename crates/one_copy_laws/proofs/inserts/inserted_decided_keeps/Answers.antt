use Rattle.one_copy_laws.proofs.InsertsDetachLaw.{inserted_decided_kept}
use Rattle.one_copy_laws.proofs.inserts.inserted_decided_keeps.Goals as goal

pub returns : goal.returns
returns c = inserted_decided_kept
