use Rattle.bench.proofs.Runs.{starts, starts_within}
use Rattle.bench.proofs.messages.reading.first_length.Goals as goal

pub returns-clause-first : goal.returns-clause-first
returns-clause-first c = starts _ _ _ c.in_ok-read.ensures.whole c.length_of.ensures

pub returns-clause-within : goal.returns-clause-within
returns-clause-within c =
    starts_within _ _ (starts _ _ _ c.in_ok-read.ensures.whole c.length_of.ensures)
