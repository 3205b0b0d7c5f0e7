use Rattle.std.proofs.Common.{length}
use Rattle.session_machine.proofs.answers.+first_attached.Given as goal

abbrev pub decreases-first_attached : goal.decreases-first_attached
decreases-first_attached l = length l.all.now
