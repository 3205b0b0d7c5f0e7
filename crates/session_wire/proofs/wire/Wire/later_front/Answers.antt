use Rattle.std.proofs.Common.{◌<◌, ◌≤◌, length, subst}
use Rattle.session_wire.proofs.Lengths.{client_len}
use Rattle.session_wire.proofs.wire.Wire.later_front.Goals as goal

pub returns-clause-fits : goal.returns-clause-fits
returns-clause-fits c = λ m n e. subst (λ bytes. (0 < n) × (n ≤ length bytes)) c.as_slice-bytes.ensures (client_len m n c.as_slice-bytes.result.now ((c.in_ok-read.ensures.whole m n).0 e))
