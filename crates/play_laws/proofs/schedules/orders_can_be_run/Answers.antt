use Rattle.play_laws.proofs.Orders.{can_order}
use Rattle.play_laws.proofs.schedules.orders_can_be_run.Goals as goal

pub returns : goal.returns
returns c = can_order
