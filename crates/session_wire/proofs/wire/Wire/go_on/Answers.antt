use Rattle.std.proofs.Common.{ℤ, Option, Some, sym, ap, subst, ◌∙◌, w64}
use Rattle.std.proofs.lemmas.Int.{to_z-of_z}
use Rattle.pg_messages.specs.Fronts.{client_front}
use Rattle.session_orders.specs.declared.order.OrderBody.{OrderBody}
use Rattle.session_wire.specs.declared.wire.WireStep.{WireStep}
use Rattle.session_wire.specs.Asking.{OrdersNext}
use Rattle.session_wire.specs.Shown.{View, shown}
use Rattle.session_wire.specs.Steps.{Meets, Opens, order}
use Rattle.session_wire.specs.Cuts.{Agrees}
use Rattle.session_wire.proofs.Cuts.{takes_none}
use Rattle.session_wire.proofs.Holds.{none_so, orders_holds}
use Rattle.session_wire.proofs.Hearing.{opens_none, opens_some}
use Rattle.session_wire.proofs.wire.Wire.go_on.Goals as goal

pub returns-in-Some-clause-opens : goal.returns-in-Some-clause-opens
returns-in-Some-clause-opens c =
    let ordered = subst (λ (o : Option OrderBody). OrdersNext c.args.tables.now (shown c.args.self.now).left c.args.self.now.settles o (shown c.args.self.now) (shown c.asked.new.self)) c.in-Some.is c.in_ok-body.ensures.orders in
    subst (λ (step : WireStep). Opens c.args.tables.now c.args.moment (shown c.args.self.now).left c.args.self.now.settles (shown c.args.self.now) (Some step) (shown c.asked.new.self))
    (sym (c.order.ensures ∙ ap (λ (moment : ℤ). order moment c.in-Some.body) (to_z-of_z w64 c.args.moment c.ranges.moment)))
    (opens_some c.args.tables.now c.args.moment (shown c.args.self.now).left c.args.self.now.settles c.in-Some.body (shown c.args.self.now) (shown c.asked.new.self) ordered)

pub returns-in-Some-clause-takes : goal.returns-in-Some-clause-takes
returns-in-Some-clause-takes c =
    let held = orders_holds c.args.tables.now (shown c.args.self.now).left c.args.self.now.settles _ (shown c.args.self.now) (shown c.asked.new.self) c.in_ok-body.ensures.orders in
    takes_none (shown c.args.self.now) (shown c.asked.new.self) held.0 (λ begun agrees. subst (λ s. Agrees s begun) (sym held.1) agrees)

pub returns-in_ok-step-in-None-clause-opens : goal.returns-in_ok-step-in-None-clause-opens
returns-in_ok-step-in-None-clause-opens c =
    let idle = none_so c.args.tables.now (shown c.args.self.now).left c.args.self.now.settles (shown c.args.self.now) (shown c.asked.new.self)
    (subst (λ (o : Option OrderBody). OrdersNext c.args.tables.now (shown c.args.self.now).left c.args.self.now.settles o (shown c.args.self.now) (shown c.asked.new.self)) c.in-None.is c.in_ok-body.ensures.orders) in
    opens_none c.args.tables.now c.args.moment (shown c.args.self.now).left c.args.self.now.settles (shown c.args.self.now) (shown c.message.new.self) c.in_ok-step-in-None.step idle.0 idle.1
    (subst (λ (v : View). Meets c.args.tables.now c.args.moment (client_front v.rest) v c.in_ok-step-in-None.step (shown c.message.new.self)) idle.2
    (subst (λ (moment : ℤ). Meets c.args.tables.now moment (client_front (shown c.asked.new.self).rest) (shown c.asked.new.self) c.in_ok-step-in-None.step (shown c.message.new.self)) (to_z-of_z w64 c.args.moment c.ranges.moment)
    c.in_ok-step-in-None.ensures.meets))
