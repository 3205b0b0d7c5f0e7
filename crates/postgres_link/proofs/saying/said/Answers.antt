use Rattle.std.proofs.Common.{sym}
use Rattle.postgres_link.proofs.saying.said.Goals as goal

pub returns-in-None-clause-none : goal.returns-in-None-clause-none
returns-in-None-clause-none c = rw c.in-Count-Open.is-0 (rw c.in-Count-Open.is-1 (λ new done. c.in-None.ensures done.0 (rw (sym c.verb_tag.ensures) at done.1)))
