use Rattle.std.proofs.Common.{refl, ◌∙◌, ap}
use Rattle.std.specs.Prelude.{Some}
use Rattle.model_store.proofs.VerdictLaws.{live_seat}
use Rattle.model_store.proofs.WalkLaws.{wants_at, run_wants, lock_wants}
use Rattle.model_store.proofs.cycle.wanted_by.Goals as goal

pub returns-in-Open : goal.returns-in-Open
returns-in-Open c = λ numbers tables given held.
    wants_at c.args.seats.now c.args.s c.index-seats-s.result _ _ _ c.requires.below c.index-seats-s.is (c.in-Some.is ∙ ap Some c.in-Run.is)
    (run_wants numbers tables c.args.log.now c.args.seats.now c.args.s c.index-seats-s.result c.in-Open.work _ held _ c.requires.below c.index-seats-s.is c.in-Open.is (c.in-Some.is ∙ ap Some c.in-Run.is) given (c.wanted_run.ensures held))

pub returns-in-Lock : goal.returns-in-Lock
returns-in-Lock c = λ numbers tables given held.
    let live = live_seat c.index-seats-s.result _ (c.in-Some.is ∙ ap Some c.in-Lock.is) refl in
    wants_at c.args.seats.now c.args.s c.index-seats-s.result _ _ _ c.requires.below c.index-seats-s.is (c.in-Some.is ∙ ap Some c.in-Lock.is)
    (lock_wants numbers tables c.args.log.now c.args.seats.now c.args.s c.index-seats-s.result live.0 _ held c.requires.below c.index-seats-s.is live.1)

pub returns-in-Snapshot : goal.returns-in-Snapshot
returns-in-Snapshot c = λ numbers tables given held. wants_at c.args.seats.now c.args.s c.index-seats-s.result _ _ _ c.requires.below c.index-seats-s.is (c.in-Some.is ∙ ap Some c.in-Snapshot.is) (λ h. h, λ h. h)

pub returns-in-Commit : goal.returns-in-Commit
returns-in-Commit c = λ numbers tables given held. wants_at c.args.seats.now c.args.s c.index-seats-s.result _ _ _ c.requires.below c.index-seats-s.is (c.in-Some.is ∙ ap Some c.in-Commit.is) (λ h. h, λ h. h)

pub returns-in-Rollback : goal.returns-in-Rollback
returns-in-Rollback c = λ numbers tables given held. wants_at c.args.seats.now c.args.s c.index-seats-s.result _ _ _ c.requires.below c.index-seats-s.is (c.in-Some.is ∙ ap Some c.in-Rollback.is) (λ h. h, λ h. h)

pub returns-in-ReadSerial : goal.returns-in-ReadSerial
returns-in-ReadSerial c = λ numbers tables given held. wants_at c.args.seats.now c.args.s c.index-seats-s.result _ _ _ c.requires.below c.index-seats-s.is (c.in-Some.is ∙ ap Some c.in-ReadSerial.is) (λ h. h, λ h. h)

pub returns-in-SetSerial : goal.returns-in-SetSerial
returns-in-SetSerial c = λ numbers tables given held. wants_at c.args.seats.now c.args.s c.index-seats-s.result _ _ _ c.requires.below c.index-seats-s.is (c.in-Some.is ∙ ap Some c.in-SetSerial.is) (λ h. h, λ h. h)
