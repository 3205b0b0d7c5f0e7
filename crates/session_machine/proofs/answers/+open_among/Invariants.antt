use Rattle.std.proofs.Common.{length}
use Rattle.session_machine.proofs.answers.+open_among.Given as goal

abbrev pub decreases-open_among : goal.decreases-open_among
decreases-open_among l = length l.all.now
