use Rattle.pgproto.proofs.SpelledAgain.{printed_again}
use Rattle.pgproto.proofs.laws.printed_again.Goals as goal

pub returns : goal.returns
returns c = printed_again
