use Rattle.recovery_laws.proofs.Untouched.{rows_stay}
use Rattle.recovery_laws.proofs.touched.untouched_rows_stay.Goals as goal

pub returns : goal.returns
returns c = rows_stay
