use Rattle.std.proofs.Common.{◌∙◌}
use Rattle.std.specs.Prelude.{◌==◌}
use Rattle.pool_base.specs.Sets.{has}
use Rattle.session_seat.proofs.SharedLemmas.{or_is}
use Rattle.session_seat.proofs.world.joined.Goals as goal

pub returns : goal.returns
returns c = λ k below. c.with.ensures.members k below ∙ or_is (k == c.args.b.number) (has c.args.set.bits k)
