use Rattle.std.proofs.Common.{◌^◌, ◌-◌, arith, ap, ◌∙◌, min, ℕ}
use Rattle.pg_values.proofs.DigitLemmas.{digit_in, capped_step, whole_value}
use Rattle.pg_values.proofs.digits.number.Goals as goal

pub overflow_sub-value : goal.overflow_sub-value
overflow_sub-value c = (digit_in c.args.digits.now c.loop-digit.digit-index c.requires (omega arith)).0

pub loop-digit-preserved : goal.loop-digit-preserved
loop-digit-preserved c =
    let step = capped_step c.args.digits.now c.loop-digit.digit-index c.loop-digit.number (2 ^ 64 - 1) c.requires (omega arith) c.loop-digit.invariant in
    cc

pub returns : goal.returns
returns c = c.loop-digit.invariant ∙ ap (λ (n : ℕ). min n (2 ^ 64 - 1)) (whole_value c.args.digits.now c.loop-digit.digit-index c.requires (omega arith))
