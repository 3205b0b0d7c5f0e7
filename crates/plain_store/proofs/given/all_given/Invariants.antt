use Rattle.plain_store.specs.Giving.{AreGivenBelow}
use Rattle.plain_store.proofs.given.all_given.Given as goal

abbrev pub invariant-loop-s : goal.invariant-loop-s
invariant-loop-s l = AreGivenBelow l.s l.store l.all.items
