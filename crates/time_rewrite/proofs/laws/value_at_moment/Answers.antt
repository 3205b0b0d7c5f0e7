use Rattle.time_rewrite.proofs.ValueLemmas.{value_same}
use Rattle.time_rewrite.proofs.laws.value_at_moment.Goals as goal

pub returns : goal.returns
returns c = value_same
