use Rattle.std.proofs.Common.{◌-◌, length, refl}
use Rattle.outcomes.proofs.Chained.{row_counts, row_is_passed}
use Rattle.outcomes.proofs.chain.left_shown.Goals as goal

pub returns-then-version-mark : goal.returns-then-version-mark
returns-then-version-mark c =
    row_counts c.args.mark c.args.versions.now c.loop-past.past (length c.args.versions.now - 1 - c.loop-past.past) c.index-versions-versions.result c.loop-past-test.true refl c.index-versions-versions.is
    c.loop-past.invariant c.if-version-mark.true

pub loop-past-preserved : goal.loop-past-preserved
loop-past-preserved c =
    row_is_passed c.args.mark c.args.versions.now c.loop-past.past (length c.args.versions.now - 1 - c.loop-past.past) c.index-versions-versions.result c.loop-past-test.true refl c.index-versions-versions.is
    c.loop-past.invariant c.if-version-mark.false
