use Rattle.recovery_laws.proofs.Untouched.{always_masked}
use Rattle.recovery_laws.proofs.touched.changes_are_masked.Goals as goal

pub returns : goal.returns
returns c = always_masked
