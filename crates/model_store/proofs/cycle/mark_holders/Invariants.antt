use Rattle.model_store.specs.Conflicts.{wants_of}
use Rattle.model_store.proofs.WalkLaws.{AreMarked}
use Rattle.model_store.proofs.cycle.mark_holders.Given as goal

abbrev pub invariant-loop-other : goal.invariant-loop-other
invariant-loop-other l = AreMarked l.seats l.s (wants_of l.wanted) l.initial.found l.found l.other
