use Rattle.std.proofs.Common.{rules, ap, sym, ◌∙◌, arith, w64, SFits}
use Rattle.std.specs.Prelude.{◌≤ℤ◌, ℤ, pos, Some}
use Rattle.std.proofs.lemmas.Int.{ints, to_z-of_z}
use Rattle.backend_trait.specs.declared.request.Request.TheVariants as requests
use Rattle.backend_trait.specs.Store.{answered}
use Rattle.plain_store.specs.Meaning.{store_of}
use Rattle.plain_store.proofs.AnsweredLaws.{kept_as, few_as, answered_as}
use Rattle.plain_store.proofs.steps.answer.Goals as goal

pub returns-in-TakeSnapshot : goal.returns-in-TakeSnapshot
returns-in-TakeSnapshot c = answered_as c.args.store.now c.args.s (store_of c.begin.new.store) c.args.request.now _ c.begin.result c.in-TakeSnapshot.is c.begin.ensures

pub run-requires : goal.run-requires
run-requires c = record {
  below = c.requires.below;
  waits = c.requires.waits ∙ ap Some c.in-Run.is;
  few = few_as c.args.store.now c.args.s c.args.request.now c.in-Run.statement c.requires.waits c.in-Run.is;
}

pub returns-in-Run : goal.returns-in-Run
returns-in-Run c = answered_as c.args.store.now c.args.s (store_of c.run.new.store) c.args.request.now _ c.run.result c.in-Run.is c.run.ensures

pub returns-in-Lock : goal.returns-in-Lock
returns-in-Lock c = answered_as c.args.store.now c.args.s (store_of c.lock.new.store) c.args.request.now _ c.lock.result c.in-Lock.is c.lock.ensures

pub returns-in-Commit : goal.returns-in-Commit
returns-in-Commit c = answered_as c.args.store.now c.args.s (store_of c.commit.new.store) c.args.request.now _ c.commit.result c.in-Commit.is c.commit.ensures

pub set_number-requires-clause-positive : goal.set_number-requires-clause-positive
set_number-requires-clause-positive c =
    let positive : pos 1 ≤ℤ c.in-SetSerial.next = kept_as c.args.store.now c.args.s c.args.request.now (requests.SetSerial c.in-SetSerial.table c.in-SetSerial.next) c.requires.waits c.in-SetSerial.is in
    omega (arith, ints, positive)

pub returns-in-SetSerial : goal.returns-in-SetSerial
returns-in-SetSerial c =
    let fits : SFits w64 c.in-SetSerial.next = search rules in
    c.set_number.ensures
    ∙ (ap (λ (z : ℤ). answered (store_of c.args.store.now) c.args.s (requests.SetSerial c.in-SetSerial.table z)) (to_z-of_z _ c.in-SetSerial.next fits)
    ∙ ap (answered (store_of c.args.store.now) c.args.s) (sym c.in-SetSerial.is))
