use Rattle.std.proofs.Common.{arith}
use Rattle.outcomes.specs.Next.{next_of}
use Rattle.plain_store.proofs.BlankLaws.{blank_is, blank_kept, blank_stored, blank_committed, allowed_keep}
use Rattle.plain_store.proofs.data.Database.new.Goals as goal

pub returns : goal.returns
returns c =
    blank_is (next_of c.new-numbers.result) c.args.catalogue c.new.result.items c.in_ok-absent.field-0.items c.in_ok-idle.field-0.items c.in_ok-unmarked.field-0.items c.new-numbers.ensures c.new.ensures.items c.in_ok-absent.ensures.all c.in_ok-idle.ensures.all

pub invariant_of-result-clause-kept : goal.invariant_of-result-clause-kept
invariant_of-result-clause-kept c = blank_kept c.args.catalogue c.in_ok-idle.field-0.items c.in_ok-idle.ensures.all

pub invariant_of-result-clause-committed : goal.invariant_of-result-clause-committed
invariant_of-result-clause-committed c = blank_committed c.args.catalogue c.new.result.items c.new.ensures.items

pub invariant_of-result-clause-stored : goal.invariant_of-result-clause-stored
invariant_of-result-clause-stored c = blank_stored c.args.catalogue c.in_ok-absent.field-0.items c.in_ok-absent.ensures.all

pub invariant_of-result-clause-keeping : goal.invariant_of-result-clause-keeping
invariant_of-result-clause-keeping c = allowed_keep c.args.catalogue c.requires

pub new-numbers-requires : goal.new-numbers-requires
new-numbers-requires c = omega (arith, c.requires.0)
