use Rattle.std.proofs.Common.{sym, subst}
use Rattle.session_wire.specs.declared.due.Due.{Due}
use Rattle.session_wire.specs.Answers.{Says}
use Rattle.session_wire.specs.Shown.{shown}
use Rattle.session_wire.proofs.Saying.{keeps_within}
use Rattle.session_wire.proofs.wire.Wire.say.Goals as goal

pub returns-in_ok-settled-in-Settle-clause-says : goal.returns-in_ok-settled-in-Settle-clause-says
returns-in_ok-settled-in-Settle-clause-says c =
    subst (λ (d : Due). Says c.args.config.now.nodes d c.args.outcome c.args.status (shown c.args.self.now) (shown c.settled.new.self)) (sym c.in-Settle.is)
    (c.in_ok-settled-in-Settle.ensures.says c.args.config.now.nodes)

pub returns-in_ok-settled-in-Settle-clause-portals : goal.returns-in_ok-settled-in-Settle-clause-portals
returns-in_ok-settled-in-Settle-clause-portals c = λ keeps.
    c.in_ok-settled-in-Settle.ensures.portals (keeps_within c.args.due c.args.outcome c.args.status c.in-Settle.is keeps)
