use Rattle.std.proofs.Common.{sym}
use Rattle.tcp_link.proofs.password.front_of.Goals as goal

pub returns : goal.returns
returns c = λ m n is. rw (sym c.as_slice.ensures) ((c.in_ok-read.ensures.whole m n).0 is).0
