use Rattle.std.proofs.Common.{None, refl, subst}
use Rattle.wire_session.specs.Standing.{StatementStands}
use Rattle.wire_session.proofs.Entries.{put_so}
use Rattle.wire_session.proofs.statements.Statements.put.Goals as goal

pub returns : goal.returns
returns c = put_so c.args.name c.args.self.now (record { entries = c.reserve.new.self }) c.close.new.self (record { entries = c.push.new.self }) (record { name = c.args.name; what = c.args.what })
    c.in_ok-reserve.ensures.items (subst (λ name. StatementStands name None (record { entries = c.reserve.new.self }) c.close.new.self) c.as_slice.ensures c.close.ensures) refl c.in_ok-push.ensures.items
