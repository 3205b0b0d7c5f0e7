use Rattle.std.proofs.Common.{◌≡◌, drop}
use Rattle.wire_session.specs.Kept.{portal_in}
use Rattle.wire_session.proofs.portals.Portals.get.Given as goal

abbrev pub invariant-loop-portal : goal.invariant-loop-portal
invariant-loop-portal l = portal_in l.name l.self.entries.items ≡ portal_in l.name (drop l.portal-index l.self.entries.items)
