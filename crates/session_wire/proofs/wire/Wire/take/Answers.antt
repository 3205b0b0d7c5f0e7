use Rattle.session_wire.specs.Shown.{shown}
use Rattle.session_wire.proofs.Hearing.{hears_other}
use Rattle.session_wire.proofs.wire.Wire.take.Goals as goal

pub returns-in_ok-body-in_default-clause-hears : goal.returns-in_ok-body-in_default-clause-hears
returns-in_ok-body-in_default-clause-hears c = hears_other c.args.tables.now c.args.message c.in_ok-body-in_default.body (shown c.args.self.now) (shown c.hear.new.self) c.in_default.not-Terminate c.in_default.not-Sync c.in_default.not-Flush
    c.in_ok-body-in_default.ensures.heard
