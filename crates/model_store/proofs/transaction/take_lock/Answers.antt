use Rattle.std.proofs.Common.{arith}
use Rattle.model_store.proofs.WorkLaws.{with_lock_live_at}
use Rattle.model_store.proofs.transaction.take_lock.Goals as goal

pub returns-clause-live : goal.returns-clause-live
returns-clause-live c = λ log. with_lock_live_at log c.args.work.now c.from.result c.args.table c.from.ensures (omega arith)
