use Rattle.std.proofs.Common.{ap, ◌∙◌, arith}
use Rattle.sql_print.specs.Spelling.{mark}
use Rattle.sql_print.specs.Printed.{part_tokens, summand_tokens, factor_tokens}
use Rattle.sql_print.specs.Writing.{state, put, after}
use Rattle.sql_print.proofs.Steps.{after_next, joined_next}
use Rattle.sql_print.proofs.expression.+printing.Goals as goal

pub write_parts-loop-part-preserved : goal.write_parts-loop-part-preserved
write_parts-loop-part-preserved t c = joined_next c.args.between part_tokens (state c.args.onto.now) (state c.loop-part.onto)
    (state c.write_before.new.onto) (state c.write_part.new.onto) c.args.parts.now c.loop-part.part-index c.part-item.result c.part-item.result
    c.loop-part.before (omega arith) c.part-item.is c.loop-part.invariant c.in_ok-write_before.ensures c.in_ok-write_part.ensures

pub write_summands-loop-summand-preserved : goal.write_summands-loop-summand-preserved
write_summands-loop-summand-preserved t c =
    let item = c.summand-item.result in
    after_next summand_tokens (state c.args.onto.now) (state c.loop-summand.onto) (state c.write_part.new.onto)
    c.args.summands.now c.loop-summand.summand-index item item (omega arith) c.summand-item.is c.loop-summand.invariant
    (c.in_ok-write_part.ensures ∙ ap (λ m. after m (part_tokens item.part))
    (c.in_ok-mark.ensures ∙ ap (λ k. put (state c.loop-summand.onto) (mark k)) c.adds.ensures))

pub write_factors-loop-factor-preserved : goal.write_factors-loop-factor-preserved
write_factors-loop-factor-preserved t c =
    let item = c.factor-item.result in
    after_next factor_tokens (state c.args.onto.now) (state c.loop-factor.onto) (state c.write_part.new.onto)
    c.args.factors.now c.loop-factor.factor-index item item (omega arith) c.factor-item.is c.loop-factor.invariant
    (c.in_ok-write_part.ensures ∙ ap (λ m. after m (part_tokens item.part))
    (c.in_ok-mark.ensures ∙ ap (λ k. put (state c.loop-factor.onto) (mark k)) c.multiplies.ensures))
