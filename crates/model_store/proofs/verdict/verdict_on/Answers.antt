use Rattle.std.proofs.Common.{refl, ◌∙◌, ap}
use Rattle.std.specs.Prelude.{Some, false}
use Rattle.model_store.specs.declared.verdict.Verdict.TheVariants as verdicts
use Rattle.model_store.specs.Seats.{store_of}
use Rattle.model_store.proofs.VerdictLaws.{fits_at, run_fits, lock_fits, live_seat}
use Rattle.model_store.proofs.verdict.verdict_on.Goals as goal

pub returns-in-Open : goal.returns-in-Open
returns-in-Open c = λ numbers tables given.
    fits_at (store_of numbers tables c.args.log.now c.args.seats.now false) c.args.seats.now c.args.at c.index-seats-at.result _ _ c.requires.below c.index-seats-at.is (c.in-Some.is ∙ ap Some c.in-Run.is)
    (run_fits numbers tables c.args.log.now c.args.seats.now c.args.at c.index-seats-at.result c.in-Open.work _ _ c.requires.below c.index-seats-at.is c.in-Open.is (c.in-Some.is ∙ ap Some c.in-Run.is) given (c.verdict_on_run.ensures numbers tables))

pub returns-in-Lock : goal.returns-in-Lock
returns-in-Lock c = λ numbers tables given.
    let live = live_seat c.index-seats-at.result _ (c.in-Some.is ∙ ap Some c.in-Lock.is) refl in
    fits_at (store_of numbers tables c.args.log.now c.args.seats.now false) c.args.seats.now c.args.at c.index-seats-at.result _ _ c.requires.below c.index-seats-at.is (c.in-Some.is ∙ ap Some c.in-Lock.is)
    (lock_fits numbers tables c.args.log.now c.args.seats.now c.args.at c.index-seats-at.result live.0 _ _ c.requires.below c.index-seats-at.is live.1 (c.verdict_on_lock.ensures numbers tables c.args.log.now))

pub returns-in-Snapshot : goal.returns-in-Snapshot
returns-in-Snapshot c = λ numbers tables given.
    fits_at (store_of numbers tables c.args.log.now c.args.seats.now false) c.args.seats.now c.args.at c.index-seats-at.result _ verdicts.Goes c.requires.below c.index-seats-at.is (c.in-Some.is ∙ ap Some c.in-Snapshot.is) refl

pub returns-in-Commit : goal.returns-in-Commit
returns-in-Commit c = λ numbers tables given.
    fits_at (store_of numbers tables c.args.log.now c.args.seats.now false) c.args.seats.now c.args.at c.index-seats-at.result _ verdicts.Goes c.requires.below c.index-seats-at.is (c.in-Some.is ∙ ap Some c.in-Commit.is) refl

pub returns-in-Rollback : goal.returns-in-Rollback
returns-in-Rollback c = λ numbers tables given.
    fits_at (store_of numbers tables c.args.log.now c.args.seats.now false) c.args.seats.now c.args.at c.index-seats-at.result _ verdicts.Goes c.requires.below c.index-seats-at.is (c.in-Some.is ∙ ap Some c.in-Rollback.is) refl
