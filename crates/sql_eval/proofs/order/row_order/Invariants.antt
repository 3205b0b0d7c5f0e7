use Rattle.std.proofs.Common.{◌≡◌, drop}
use Rattle.sql_eval.specs.Ordered.{row_order}
use Rattle.sql_eval.proofs.order.row_order.Given as goal

abbrev pub invariant-loop-key : goal.invariant-loop-key
invariant-loop-key l = row_order (drop l.key-index l.keys) l.a l.b ≡ row_order l.keys l.a l.b
