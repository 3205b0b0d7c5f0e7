use Rattle.std.proofs.Common.{◌≤◌, refl, length, ap, arith, drop_of_length-le}
use Rattle.session_wire.specs.Asking.{settling}
use Rattle.session_wire.specs.Shown.{shown}
use Rattle.session_wire.proofs.Asked.{first_next, none_next, settle_next}
use Rattle.session_wire.proofs.wire.Wire.asked.Goals as goal

pub returns-then-self-len-clause-orders : goal.returns-then-self-len-clause-orders
returns-then-self-len-clause-orders c = first_next c.args.tables.now (shown c.args.self.now).left c.args.self.now.settles c.in_ok-body.body (shown c.args.self.now) (shown c.ask_statement.new.self) refl c.in_ok-body.ensures.orders

pub returns-then-not-self-clause-orders : goal.returns-then-not-self-clause-orders
returns-then-not-self-clause-orders c =
    let over : length c.args.self.now.text ≤ c.args.self.now.at = omega arith in
    none_next c.args.tables.now (shown c.args.self.now).left c.args.self.now.settles (shown c.args.self.now) (drop_of_length-le c.args.self.now.text over) c.if-not-self.true

pub returns-clause-orders : goal.returns-clause-orders
returns-clause-orders c =
    let over : length c.args.self.now.text ≤ c.args.self.now.at = omega arith in
    settle_next c.args.tables.now (shown c.args.self.now).left c.args.self.now.settles (shown c.args.self.now) (settling (shown c.make_room.new.self)) (drop_of_length-le c.args.self.now.text over) c.if-not-self.false (ap settling c.in_ok-make_room.ensures.same)
