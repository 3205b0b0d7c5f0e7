use Rattle.std.proofs.Common.{subst}
use Rattle.session_wire.specs.Heeds.{Heeds}
use Rattle.session_wire.specs.Shown.{View, shown}
use Rattle.session_wire.proofs.Hearing.{heeds_so, skips_so}
use Rattle.session_wire.proofs.wire.Wire.hear.Goals as goal

pub returns-then-self-clause-heard : goal.returns-then-self-clause-heard
returns-then-self-clause-heard c = skips_so c.args.self.now.session.skipping (shown c.args.self.now) (Heeds c.args.tables.now c.args.message _ (shown c.args.self.now) (shown c.args.self.now)) c.if-self.true

pub returns-clause-heard : goal.returns-clause-heard
returns-clause-heard c = heeds_so c.args.self.now.session.skipping c.in_ok-body.body (shown c.args.self.now) (shown c.heed.new.self)
    (Heeds c.args.tables.now c.args.message c.in_ok-body.body (shown c.args.self.now) (shown c.heed.new.self)) c.if-self.false
    (subst (λ (v : View). Heeds c.args.tables.now c.args.message c.in_ok-body.body v (shown c.heed.new.self)) c.in_ok-make_room.ensures.same c.in_ok-body.ensures.heeds)
