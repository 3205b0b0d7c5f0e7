use Rattle.session_ahead.proofs.Primary.{locks}
use Rattle.session_ahead.proofs.laws.locks_wait.Goals as goal

pub returns : goal.returns
returns c = locks
