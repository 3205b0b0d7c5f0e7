use Rattle.recovery_laws.proofs.Leaving.{gone_kept}
use Rattle.recovery_laws.proofs.moves.detach_keeps.Goals as goal

pub returns : goal.returns
returns c = λ t s b h. gone_kept t h s b
