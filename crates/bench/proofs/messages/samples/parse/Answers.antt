use Rattle.std.proofs.Common.{lit<, lit≤, refl}
use Rattle.bench.proofs.Texts.{is_string}
use Rattle.bench.proofs.messages.samples.parse.Goals as goal

pub returns : goal.returns
returns c = (
  (
    (
      is_string _ _ c.in_ok-from_slice.ensures refl,
      is_string _ _ c.in_ok-from_slice-2.ensures refl,
      rw c.in_ok-from_slice-3.ensures (lit< tt),
    ),
    rw (c.in_ok-from_slice.ensures, c.in_ok-from_slice-2.ensures, c.in_ok-from_slice-3.ensures)
        (lit≤ tt),
  ),
  rw (c.in_ok-from_slice.ensures, c.in_ok-from_slice-2.ensures, c.in_ok-from_slice-3.ensures)
      refl,
)
