use Rattle.std.proofs.Common.{subst}
use Rattle.session_wire.specs.Asking.{AsksFirst, Orders}
use Rattle.session_wire.specs.Shown.{View, shown}
use Rattle.session_wire.proofs.wire.Wire.ask_statement.Goals as goal

pub returns-clause-orders : goal.returns-clause-orders
returns-clause-orders c = record {
  what = c.in_ok-asked.asked;
  asks = subst (λ (v : View). AsksFirst c.args.tables.now v.session.status v.session.implicit v.left c.in_ok-asked.asked) c.in_ok-make_room.ensures.same c.in_ok-asked.ensures;
  gives = subst (λ (v : View). Orders c.in_ok-asked.asked c.take_asked.result v (shown c.take_asked.new.self)) c.in_ok-make_room.ensures.same c.take_asked.ensures.orders;
}
