use Rattle.session_ahead.proofs.Primary.{writes}
use Rattle.session_ahead.proofs.laws.writes_wait.Goals as goal

pub returns : goal.returns
returns c = writes
