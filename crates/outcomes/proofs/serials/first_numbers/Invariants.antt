use Rattle.outcomes.proofs.NextLaws.{AreFirst}
use Rattle.outcomes.proofs.serials.first_numbers.Given as goal

abbrev pub invariant-loop-table : goal.invariant-loop-table
invariant-loop-table l = AreFirst l.catalogue l.all l.table
