use Rattle.std.proofs.Common.{◌≡◌, None, take}
use Rattle.wire_session.specs.Kept.{portal_in}
use Rattle.wire_session.proofs.portals.Portals.place_of.Given as goal

abbrev pub invariant-loop-at : goal.invariant-loop-at
invariant-loop-at l = portal_in l.name (take l.at l.self.entries.items) ≡ None
