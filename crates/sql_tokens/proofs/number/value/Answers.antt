use Rattle.std.proofs.Common.{◌≡◌, ◌-◌, ◌+◌, ◌*◌, ◌^◌, min, slice_index, arith, sym, ◌∙◌}
use Rattle.sql_tokens.proofs.Numbers.{one_more, no_more, stops, ends}
use Rattle.sql_tokens.proofs.number.value.Goals as goal

pub returns-then-not-is_ascii_digit : goal.returns-then-not-is_ascii_digit
returns-then-not-is_ascii_digit c =
    no_more (2 ^ 64 - 1) c.loop-left.value _ c.loop-left.left.now
    (stops c.loop-left.left.now c.in-len1-up.len_at_least (sym c.if-not-is_ascii_digit.ensures.value)) (omega arith) c.loop-left.invariant.same

pub loop-left-preserved : goal.loop-left-preserved
loop-left-preserved c =
    let value : c.saturating_add-value.result ≡ min (c.loop-left.value * 10 + (slice_index c.loop-left.left.now 0 - 48)) (2 ^ 64 - 1) = omega arith in
    record {
      small = omega arith;
      same = one_more (2 ^ 64 - 1) c.loop-left.value c.saturating_add-value.result c.loop-left.left.now c.in-len1-up.len_at_least
          (sym c.if-not-is_ascii_digit.ensures.value) value ∙ c.loop-left.invariant.same;
    }

pub returns : goal.returns
returns c =
    no_more (2 ^ 64 - 1) c.loop-left.value _ c.loop-left.left.now (ends c.loop-left.left.now c.in_default.len_below) (omega arith) c.loop-left.invariant.same
