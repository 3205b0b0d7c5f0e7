use Rattle.std.proofs.Common.{lit≤, refl}
use Rattle.bench.proofs.Texts.{is_string}
use Rattle.bench.proofs.messages.samples.query.Goals as goal

pub returns : goal.returns
returns c = (
  (is_string _ _ c.in_ok-from_slice.ensures refl, rw c.in_ok-from_slice.ensures (lit≤ tt)),
  rw c.in_ok-from_slice.ensures refl,
)
