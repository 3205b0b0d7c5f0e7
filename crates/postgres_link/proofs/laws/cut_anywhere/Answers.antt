use Rattle.postgres_link.proofs.Cuts.{cut_waits, cut_replies, cut_breaks}
use Rattle.postgres_link.proofs.laws.cut_anywhere.Goals as goal

pub returns-clause-waits : goal.returns-clause-waits
returns-clause-waits g c = λ s new n m left now a b rest o. cut_waits c.fronts_stay.ensures.server s new n m left now a b rest o

pub returns-clause-replies : goal.returns-clause-replies
returns-clause-replies g c = λ s n left a b rest r. cut_replies c.fronts_stay.ensures.server s n left a b rest r

pub returns-clause-breaks : goal.returns-clause-breaks
returns-clause-breaks g c = λ s n left a b. cut_breaks c.fronts_stay.ensures.server s n left a b
