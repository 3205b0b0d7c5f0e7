use Rattle.one_copy_laws.proofs.OrdersOrderLaw.{order_kept}
use Rattle.one_copy_laws.proofs.orders.order_keeps.Goals as goal

pub returns : goal.returns
returns c = order_kept
