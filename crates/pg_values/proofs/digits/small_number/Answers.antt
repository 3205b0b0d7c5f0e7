use Rattle.std.proofs.Common.{arith, ◌∙◌}
use Rattle.pg_values.proofs.DigitLemmas.{digit_in, next_digit, front_below, number_below, whole_value}
use Rattle.pg_values.proofs.digits.small_number.Goals as goal

pub overflow_mul-number : goal.overflow_mul-number
overflow_mul-number c =
    let below = front_below c.args.digits.now c.loop-digit.digit-index c.requires.digits in
    let bound = number_below c.args.digits.now 6 c.requires.digits c.requires.few in
    omega arith

pub overflow_sub-number : goal.overflow_sub-number
overflow_sub-number c = (digit_in c.args.digits.now c.loop-digit.digit-index c.requires.digits (omega arith)).0

pub overflow_add-number : goal.overflow_add-number
overflow_add-number c =
    let below = front_below c.args.digits.now c.loop-digit.digit-index c.requires.digits in
    let bound = number_below c.args.digits.now 6 c.requires.digits c.requires.few in
    let d = digit_in c.args.digits.now c.loop-digit.digit-index c.requires.digits (omega arith) in
    omega arith

pub loop-digit-preserved : goal.loop-digit-preserved
loop-digit-preserved c =
    let next = next_digit c.args.digits.now c.loop-digit.digit-index c.requires.digits (omega arith) in
    let was = c.loop-digit.invariant in
    omega arith

pub returns-clause-value : goal.returns-clause-value
returns-clause-value c = c.loop-digit.invariant ∙ whole_value c.args.digits.now c.loop-digit.digit-index c.requires.digits (omega arith)

pub returns-clause-below : goal.returns-clause-below
returns-clause-below c =
    let below = front_below c.args.digits.now c.loop-digit.digit-index c.requires.digits in
    let bound = number_below c.args.digits.now 6 c.requires.digits c.requires.few in
    omega arith
