use Rattle.std.proofs.Common.{◌≡◌, drop}
use Rattle.outcomes.specs.Chains.{all_chained, first_entry}
use Rattle.outcomes.proofs.shown.first_shown.Given as goal

abbrev pub invariant-loop-number : goal.invariant-loop-number
invariant-loop-number l = first_entry l.mark l.table (drop l.number (all_chained l.chains)) ≡ first_entry l.mark l.table (drop l.from (all_chained l.chains))
