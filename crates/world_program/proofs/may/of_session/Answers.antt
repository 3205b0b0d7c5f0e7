use Rattle.backend_trait.proofs.Telling.{never}
use Rattle.world_program.proofs.Backends.{both_lets}
use Rattle.world_program.proofs.may.of_session.Goals as goal

pub lets-requires : goal.lets-requires
lets-requires c = c.in_ok-takes_there.ensures.0 c.if-not-branch.false

pub returns-then-not-branch : goal.returns-then-not-branch
returns-then-not-branch c = never _ (λ h. let yes = c.in_ok-takes_there.ensures.1 h.0 in let no = c.if-not-branch.true in cc)

pub returns : goal.returns
returns c = both_lets _ c.lets.result (c.in_ok-takes_there.ensures.0 c.if-not-branch.false) c.lets.ensures
