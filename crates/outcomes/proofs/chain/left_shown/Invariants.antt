use Rattle.std.proofs.Common.{◌≡◌, ◌-◌, length, take}
use Rattle.outcomes.specs.Chains.{shown}
use Rattle.outcomes.proofs.chain.left_shown.Given as goal

abbrev pub invariant-loop-past : goal.invariant-loop-past
invariant-loop-past l = shown l.mark (take (length l.versions - l.past) l.versions) ≡ shown l.mark l.versions
