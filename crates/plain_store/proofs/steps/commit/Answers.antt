use Rattle.std.proofs.Common.{ap, subst, sym}
use Rattle.std.specs.Prelude.{Option}
use Rattle.std.proofs.lemmas.Option.{slice_get_read}
use Rattle.outcomes.specs.declared.change.ChangeSet.{ChangeSet}
use Rattle.plain_store.specs.Phases.{transaction_in}
use Rattle.plain_store.specs.Meaning.{store_of}
use Rattle.plain_store.specs.Steps.{IsSetIn}
use Rattle.plain_store.proofs.StepLaws.{committed_none}
use Rattle.plain_store.proofs.AnsweredLaws.{set_settles, commit_done}
use Rattle.plain_store.proofs.steps.commit.Goals as goal

pub commit_set-requires-clause-stored : goal.commit_set-requires-clause-stored
commit_set-requires-clause-stored c =
    let d = c.args.store.now in
    set_settles d c.args.s c.index-phase.result.now c.in-Some.set (slice_get_read d.phases.items 65 c.args.s c.index-phase.result.now (sym d.phased) c.requires c.index-phase.ensures)
    (subst (IsSetIn c.index-phase.result.now) c.in-Some.is c.in_ok-found.ensures)

pub returns-in-Some : goal.returns-in-Some
returns-in-Some c =
    let d = c.args.store.now in
    commit_done d c.args.s c.index-phase.result.now c.in-Some.set (store_of c.commit_set.new.store) c.commit_set.result
    (slice_get_read d.phases.items 65 c.args.s c.index-phase.result.now (sym d.phased) c.requires c.index-phase.ensures)
    (subst (IsSetIn c.index-phase.result.now) c.in-Some.is c.in_ok-found.ensures) c.commit_set.ensures

pub returns-in-None : goal.returns-in-None
returns-in-None c =
    let d = c.args.store.now in
    committed_none (store_of d) (store_of c.settle.new.store) c.args.s c.index-phase.result.now
    (ap transaction_in (slice_get_read d.phases.items 65 c.args.s c.index-phase.result.now (sym d.phased) c.requires c.index-phase.ensures))
    (subst (IsSetIn c.index-phase.result.now) c.in-None.is c.in_ok-found.ensures) c.settle.ensures
