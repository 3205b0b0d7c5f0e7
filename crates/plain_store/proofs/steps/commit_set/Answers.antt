use Rattle.std.proofs.Common.{List, subst, sym}
use Rattle.backend_trait.specs.Typed.{AreAllStored}
use Rattle.outcomes.specs.declared.change.ChangeSet.{ChangeSet}
use Rattle.outcomes.specs.Log.{rows_of}
use Rattle.plain_store.specs.Meaning.{store_of}
use Rattle.plain_store.proofs.AnsweredLaws.{commit_is, commit_committed, commit_stays, commit_phased}
use Rattle.plain_store.proofs.steps.commit_set.Goals as goal

pub invariant_of-store : goal.invariant_of-store
invariant_of-store c =
    let d = c.args.store.now in
    record {
      phased = d.phased;
      requested = d.requested;
      marked = d.marked;
      kept = d.kept;
      committed = subst (λ (log : List ChangeSet). AreAllStored d.catalogue (rows_of log)) (sym c.in_err-push.ensures.items) d.committed;
      stored = d.stored;
      keeping = d.keeping;
    }

pub invariant_of-store-2-clause-phased : goal.invariant_of-store-2-clause-phased
invariant_of-store-2-clause-phased c = commit_phased c.args.store.now c.args.s c.args.set c.in_ok-phases.phases.items c.as_slice.result.now c.as_slice.ensures.value c.in_ok-phases.ensures

pub invariant_of-store-2-clause-committed : goal.invariant_of-store-2-clause-committed
invariant_of-store-2-clause-committed c = commit_committed c.args.store.now c.args.s c.args.set c.push.new.self.items c.in_ok-push.ensures.items c.requires.stored

pub invariant_of-store-2-clause-stored : goal.invariant_of-store-2-clause-stored
invariant_of-store-2-clause-stored c = commit_stays c.args.store.now c.args.s c.args.set c.in_ok-phases.phases.items c.as_slice.result.now c.as_slice.ensures.value c.in_ok-phases.ensures

pub returns : goal.returns
returns c =
    commit_is c.args.store.now c.args.s c.args.set c.push.new.self.items c.in_ok-phases.phases.items c.as_slice.result.now (store_of c.settle.new.store)
    c.as_slice.ensures.value c.in_ok-push.ensures.items c.in_ok-phases.ensures c.settle.ensures
