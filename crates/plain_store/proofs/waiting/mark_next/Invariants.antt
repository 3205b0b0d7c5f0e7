use Rattle.plain_store.specs.States.{states_of}
use Rattle.plain_store.specs.Deciding.{waits_for}
use Rattle.plain_store.proofs.WaitLaws.{AreMarked}
use Rattle.plain_store.proofs.waiting.mark_next.Given as goal

abbrev pub invariant-loop-o : goal.invariant-loop-o
invariant-loop-o l = AreMarked (waits_for (states_of l.all)) l.s l.initial.found l.found l.o
