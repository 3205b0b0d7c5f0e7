use Rattle.std.proofs.Common.{◌≡◌, ◌≤◌, length}
use Rattle.pg_values.specs.Reading.{word_rest}
use Rattle.pg_values.proofs.digits.after_word.Given as goal

abbrev pub invariant-loop-rest : goal.invariant-loop-rest
invariant-loop-rest l = (word_rest l.rest ≡ word_rest l.text) × (length l.rest ≤ length l.text)

abbrev pub decreases-loop-rest : goal.decreases-loop-rest
decreases-loop-rest l = length l.rest
