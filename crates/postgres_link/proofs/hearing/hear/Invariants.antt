use Rattle.std.proofs.Common.{length}
use Rattle.postgres_link.specs.Hearing.{LeadsTo, stands}
use Rattle.postgres_link.proofs.hearing.hear.Given as goal

abbrev pub invariant-loop-told : goal.invariant-loop-told
invariant-loop-told g l = LeadsTo g.H.Hearer.Goes g.H.Hearer.Ends g.H.Hearer.Exceeds (stands l.fn.listening.hearer l.fn.listening.heard l.fn.listening.left l.fn.inbox)
    (stands l.listening.hearer l.listening.heard l.listening.left l.inbox)

abbrev pub decreases-loop-told : goal.decreases-loop-told
decreases-loop-told g l = length l.inbox
