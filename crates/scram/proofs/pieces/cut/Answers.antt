use Rattle.std.proofs.Common.{◌<◌, ◌≤◌, length, arith}
use Rattle.scram.proofs.Marks.{lacks_take, lacks_from_reads, parted_take}
use Rattle.scram.proofs.pieces.cut.Goals as goal

pub returns-then-byte-mark : goal.returns-then-byte-mark
returns-then-byte-mark c =
    let low : c.loop-at.at < length c.args.bytes.now = omega arith in (
      lacks_take c.args.mark c.loop-at.at c.args.bytes.now (omega arith) c.loop-at.invariant,
      parted_take c.args.mark c.loop-at.at c.args.bytes.now low c.if-byte-mark.true,
    )

pub returns : goal.returns
returns c =
    let end : length c.args.bytes.now ≤ c.loop-at.at = omega arith in
    lacks_from_reads c.args.mark c.args.bytes.now (λ k h. c.loop-at.invariant k (omega (arith, end, h)))
