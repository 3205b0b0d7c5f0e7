use Rattle.session_links.proofs.Sound.{IsKept}
use Rattle.session_links.proofs.links.Links.keep.Given as goal

abbrev pub invariant-loop-number : goal.invariant-loop-number
invariant-loop-number g l = IsKept l.among.bits l.initial.self.slots.items l.self.slots.items l.number
