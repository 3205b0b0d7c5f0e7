use Rattle.std.proofs.Common.{◌≡◌, ◌≤◌, length}
use Rattle.pg_values.specs.Reading.{digits_rest}
use Rattle.pg_values.proofs.digits.after_digits.Given as goal

abbrev pub invariant-loop-rest : goal.invariant-loop-rest
invariant-loop-rest l = (digits_rest l.rest ≡ digits_rest l.text) × (length l.rest ≤ length l.text)

abbrev pub decreases-loop-rest : goal.decreases-loop-rest
decreases-loop-rest l = length l.rest
