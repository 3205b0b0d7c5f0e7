use Rattle.one_copy_laws.proofs.SplitsStayLaw.{unkept, onward}
use Rattle.one_copy_laws.proofs.splits.stay_keeps.Goals as goal

pub returns : goal.returns
returns c = record { unkept = unkept; onward = onward }
