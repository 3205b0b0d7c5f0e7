use Rattle.std.proofs.Common.{sym, ap, ◌∙◌}
use Rattle.std.specs.Prelude.{pos}
use Rattle.session_engine.specs.Cores.{machine_in}
use Rattle.session_machine.specs.declared.machine.Machine.{Machine}
use Rattle.session_machine.specs.Allowed.{may_leave}
use Rattle.session_machine.specs.Rules.{after}
use Rattle.session_machine.specs.declared.action.SessionEvent.TheVariants as events
use Rattle.session_orders.specs.declared.order.OrderBody.TheVariants as orders
use Rattle.session_wire.specs.Shown.{shown}
use Rattle.serve_steps.specs.Places.{at_moment}
use Rattle.pool_server.proofs.Stepping.{gone_by, leaves, none_gone}
use Rattle.pool_server.proofs.session.Session.lose.Goals as goal

pub returns-then-not-may_give_up-clause-parts : goal.returns-then-not-may_give_up-clause-parts
returns-then-not-may_give_up-clause-parts g c = gone_by c.part.new.self.parting c.lost_by.result c.lost_by.ensures

pub returns-then-not-may_give_up-clause-went : goal.returns-then-not-may_give_up-clause-went
returns-then-not-may_give_up-clause-went g c = none_gone c.args.self.now.parting c.part.new.self.parting c.args.cause c.lost_by.result _ c.lost_by.ensures c.part.ensures.lost

pub returns-clause-went : goal.returns-clause-went
returns-clause-went g c = λ w s.
    leaves w s (machine_in c.args.self.now.work.core) (machine_in c.give_up.new.self) (shown c.args.self.now.talk.wire) (shown c.part.new.self.talk.wire) c.args.self.now.parting c.part.new.self.parting c.args.cause
    (ap (λ (m : Machine). may_leave m.point) (sym c.part.ensures.machine) ∙ (sym c.may_give_up.ensures ∙ c.if-not-may_give_up.false))
    (c.give_up.ensures (pos 0) ∙ ap (λ (m : Machine). after m (events.Ordered (at_moment (pos 0) orders.Leave))) c.part.ensures.machine) c.part.ensures.wire c.part.ensures.lost c.part.ensures.leaving
