use Rattle.one_copy_laws.proofs.DecidedLast.{last_lost_kept, last_split_kept}
use Rattle.one_copy_laws.proofs.decided.last_keeps.Goals as goal

pub returns : goal.returns
returns c = record { lost = last_lost_kept; differs = last_split_kept }
