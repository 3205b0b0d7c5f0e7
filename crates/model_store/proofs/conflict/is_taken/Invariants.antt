use Rattle.model_store.specs.Conflicts.{wants_of}
use Rattle.model_store.proofs.ConflictLaws.{IsNoneBelow}
use Rattle.model_store.proofs.conflict.is_taken.Given as goal

abbrev pub invariant-loop-other : goal.invariant-loop-other
invariant-loop-other l = IsNoneBelow l.seats l.at (wants_of l.wanted) l.other
