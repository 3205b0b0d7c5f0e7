use Rattle.std.proofs.Common.{◌<◌, ap, ◌∙◌, rules}
use Rattle.pool_base.specs.Sets.{has}
use Rattle.write_path.proofs.Members.{with_has}
use Rattle.journal_check.proofs.header.joined.Goals as goal

pub returns : goal.returns
returns c = λ k below.
    let fits : c.args.set.bits < 256 = search rules in
    ap (λ b. has b k) c.with.ensures.bits ∙ with_has c.args.set.bits c.args.b.number k fits c.args.b.below_8 below
