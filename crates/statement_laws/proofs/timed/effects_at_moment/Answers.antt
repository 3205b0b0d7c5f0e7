use Rattle.statement_laws.proofs.Same.{effect_same}
use Rattle.statement_laws.proofs.timed.effects_at_moment.Goals as goal

pub returns : goal.returns
returns c = effect_same c.value_at_moment.ensures
