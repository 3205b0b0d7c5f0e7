use Rattle.std.proofs.Common.{None, refl, subst}
use Rattle.wire_session.specs.Standing.{PortalStands}
use Rattle.wire_session.proofs.Places.{put_so}
use Rattle.wire_session.proofs.portals.Portals.put.Goals as goal

pub returns : goal.returns
returns c = put_so c.args.portal.name c.args.self.now (record { entries = c.reserve.new.self }) c.close.new.self (record { entries = c.push.new.self }) c.args.portal
    c.in_ok-reserve.ensures.items (subst (λ name. PortalStands name None (record { entries = c.reserve.new.self }) c.close.new.self) c.as_slice.ensures c.close.ensures) refl c.in_ok-push.ensures.items
