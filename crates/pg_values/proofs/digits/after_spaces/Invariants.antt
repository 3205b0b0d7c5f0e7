use Rattle.std.proofs.Common.{◌≡◌, length}
use Rattle.pg_values.specs.Reading.{after_spaces}
use Rattle.pg_values.proofs.digits.after_spaces.Given as goal

abbrev pub invariant-loop-rest : goal.invariant-loop-rest
invariant-loop-rest l = after_spaces l.rest ≡ after_spaces l.text

abbrev pub decreases-loop-rest : goal.decreases-loop-rest
decreases-loop-rest l = length l.rest
