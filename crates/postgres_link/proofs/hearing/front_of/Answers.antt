use Rattle.std.proofs.Common.{sym}
use Rattle.postgres_link.proofs.Fronts.{message_length}
use Rattle.postgres_link.proofs.hearing.front_of.Goals as goal

pub returns-clause-length : goal.returns-clause-length
returns-clause-length c = λ m n is. rw (sym c.as_slice.ensures) (message_length m n c.as_slice.result.now ((c.in_ok-read.ensures.whole m n).0 is))
