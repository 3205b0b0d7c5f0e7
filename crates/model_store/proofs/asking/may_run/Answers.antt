use Rattle.model_store.proofs.AskLaws.{run_told, run_unlocked}
use Rattle.model_store.proofs.asking.may_run.Goals as goal

pub returns-then-has_lock_for : goal.returns-then-has_lock_for
returns-then-has_lock_for c =
    run_told c.args.catalogue.now c.args.phase.now c.in-Open.work c.args.statement.now c.has_lock_for.result c.in-Open.is c.has_lock_for.ensures c.is_runnable.result c.is_runnable.ensures
    c.if-has_lock_for.true

pub returns-else-has_lock_for : goal.returns-else-has_lock_for
returns-else-has_lock_for c =
    run_unlocked c.args.catalogue.now c.args.phase.now c.in-Open.work c.args.statement.now c.has_lock_for.result c.in-Open.is c.has_lock_for.ensures c.if-has_lock_for.false
