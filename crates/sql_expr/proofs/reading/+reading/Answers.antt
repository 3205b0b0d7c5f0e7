use Rattle.std.proofs.Common.{sym, subst, arith}
use Rattle.std.proofs.lemmas.Result.{err_from_is_err_and}
use Rattle.sql_tokens.specs.Grammar.{part}
use Rattle.sql_tokens.specs.Reading.{Gives, tails}
use Rattle.sql_expr.specs.declared.opening.Opening.TheVariants.{Parenthesis}
use Rattle.sql_expr.specs.Grammar.{sum_part, product_part}
use Rattle.sql_expr.specs.Reading.{after_or, after_and, after_comma, after_bars, after_sign, after_factor_sign, un_with, product_with, sum_with, not_with, and_with, behind}
use Rattle.sql_tokens.proofs.Loops.{goes_on, ends, is_done}
use Rattle.sql_expr.proofs.Behind.{behind_none, behind_minus, behind_not, behind_parenthesis, behind_call}
use Rattle.sql_expr.proofs.reading.+reading.Goals as goal

pub nested-returns-then-depth-eq0-clause-gives : goal.nested-returns-then-depth-eq0-clause-gives
nested-returns-then-depth-eq0-clause-gives t c = behind_none c.args.depth c.args.opening c.args.tokens.now c.if-depth-eq0.true

pub nested-returns-in-Minus-clause-gives : goal.nested-returns-in-Minus-clause-gives
nested-returns-in-Minus-clause-gives t c = subst (λ r. Gives (λ x. (x.0, x.1.now)) c.minus.result r) (behind_minus c.args.depth c.args.opening c.args.tokens.now c.if-depth-eq0.false c.in-Minus.is) c.minus.ensures.gives

pub nested-returns-in-Not-clause-gives : goal.nested-returns-in-Not-clause-gives
nested-returns-in-Not-clause-gives t c = subst (λ r. Gives (λ x. (x.0, x.1.now)) c.negated.result r) (behind_not c.args.depth c.args.opening c.args.tokens.now c.if-depth-eq0.false c.in-Not.is) c.negated.ensures.gives

pub nested-returns-in-Parenthesis-clause-gives : goal.nested-returns-in-Parenthesis-clause-gives
nested-returns-in-Parenthesis-clause-gives t c = subst (λ r. Gives (λ x. (x.0, x.1.now)) c.disjunction.result r) (behind_parenthesis c.args.depth c.args.opening c.args.tokens.now c.if-depth-eq0.false c.in-Parenthesis.is) c.disjunction.ensures.gives

pub nested-returns-in-Call-clause-gives : goal.nested-returns-in-Call-clause-gives
nested-returns-in-Call-clause-gives t c = subst (λ r. Gives (λ x. (x.0, x.1.now)) c.called.result r) (behind_call c.args.depth c.in-Call.function c.args.opening c.args.tokens.now c.if-depth-eq0.false c.in-Call.is) c.called.ensures.gives

pub factors-returns-in_err-part-clause-gives : goal.factors-returns-in_err-part-clause-gives
factors-returns-in_err-part-clause-gives t c =
    let p = err_from_is_err_and c.from_residual.result c.from_residual.ensures.1 in
    rw (p.1, p.2) (ends c.in_err-part.field-0.0 after_factor_sign product_part (un_with (behind c.args.depth)) c.loop-sign.parts c.loop-sign.rest.now c.in-Some.after.now (tails after_factor_sign product_part (un_with (behind c.args.depth)) c.args.tokens.now) c.in-Some.sign c.loop-sign.invariant.going (sym c.in-Some.ensures.gives) (omega (arith, c.in-Some.ensures.shorter)) c.in_err-part.ensures.gives)

pub factors-loop-sign-preserved : goal.factors-loop-sign-preserved
factors-loop-sign-preserved t c = record {
  going = rw c.in_ok-push.ensures.ok (goes_on after_factor_sign product_part (un_with (behind c.args.depth)) c.loop-sign.parts c.loop-sign.rest.now c.in-Some.after.now c.in_ok-part.after.now (tails after_factor_sign product_part (un_with (behind c.args.depth)) c.args.tokens.now) c.in-Some.sign c.in_ok-part.part c.loop-sign.invariant.going (sym c.in-Some.ensures.gives) c.in_ok-part.ensures.gives (omega (arith, c.in-Some.ensures.shorter, c.in_ok-part.ensures.shorter)));
  short = omega (arith, c.in-Some.ensures.shorter, c.in_ok-part.ensures.shorter);
}

pub factors-returns-clause-gives : goal.factors-returns-clause-gives
factors-returns-clause-gives t c = is_done after_factor_sign product_part (un_with (behind c.args.depth)) c.loop-sign.parts c.loop-sign.rest.now (tails after_factor_sign product_part (un_with (behind c.args.depth)) c.args.tokens.now) c.loop-sign.invariant.going (sym c.in_default.ensures.gives)

pub summands-returns-in_err-part-clause-gives : goal.summands-returns-in_err-part-clause-gives
summands-returns-in_err-part-clause-gives t c =
    let p = err_from_is_err_and c.from_residual.result c.from_residual.ensures.1 in
    rw (p.1, p.2) (ends c.in_err-part.field-0.0 after_sign sum_part (product_with (behind c.args.depth)) c.loop-minus.parts c.loop-minus.rest.now c.in-Some.after.now (tails after_sign sum_part (product_with (behind c.args.depth)) c.args.tokens.now) c.in-Some.minus c.loop-minus.invariant.going (sym c.in-Some.ensures.gives) (omega (arith, c.in-Some.ensures.shorter)) c.in_err-part.ensures.gives)

pub summands-loop-minus-preserved : goal.summands-loop-minus-preserved
summands-loop-minus-preserved t c = record {
  going = rw c.in_ok-push.ensures.ok (goes_on after_sign sum_part (product_with (behind c.args.depth)) c.loop-minus.parts c.loop-minus.rest.now c.in-Some.after.now c.in_ok-part.after.now (tails after_sign sum_part (product_with (behind c.args.depth)) c.args.tokens.now) c.in-Some.minus c.in_ok-part.part c.loop-minus.invariant.going (sym c.in-Some.ensures.gives) c.in_ok-part.ensures.gives (omega (arith, c.in-Some.ensures.shorter, c.in_ok-part.ensures.shorter)));
  short = omega (arith, c.in-Some.ensures.shorter, c.in_ok-part.ensures.shorter);
}

pub summands-returns-clause-gives : goal.summands-returns-clause-gives
summands-returns-clause-gives t c = is_done after_sign sum_part (product_with (behind c.args.depth)) c.loop-minus.parts c.loop-minus.rest.now (tails after_sign sum_part (product_with (behind c.args.depth)) c.args.tokens.now) c.loop-minus.invariant.going (sym c.in_default.ensures.gives)

pub joined-returns-in_err-part-clause-gives : goal.joined-returns-in_err-part-clause-gives
joined-returns-in_err-part-clause-gives t c =
    let p = err_from_is_err_and c.from_residual.result c.from_residual.ensures.1 in
    rw (p.1, p.2) (ends c.in_err-part.field-0.0 after_bars part (sum_with (behind c.args.depth)) c.loop-after.parts c.loop-after.rest.now c.in-Some.after.now (tails after_bars part (sum_with (behind c.args.depth)) c.args.tokens.now) tt c.loop-after.invariant.going (sym c.in-Some.ensures.gives) (omega (arith, c.in-Some.ensures.shorter)) c.in_err-part.ensures.gives)

pub joined-loop-after-preserved : goal.joined-loop-after-preserved
joined-loop-after-preserved t c = record {
  going = rw c.in_ok-push.ensures.ok (goes_on after_bars part (sum_with (behind c.args.depth)) c.loop-after.parts c.loop-after.rest.now c.in-Some.after.now c.in_ok-part.after.now (tails after_bars part (sum_with (behind c.args.depth)) c.args.tokens.now) tt c.in_ok-part.part c.loop-after.invariant.going (sym c.in-Some.ensures.gives) c.in_ok-part.ensures.gives (omega (arith, c.in-Some.ensures.shorter, c.in_ok-part.ensures.shorter)));
  short = omega (arith, c.in-Some.ensures.shorter, c.in_ok-part.ensures.shorter);
}

pub joined-returns-clause-gives : goal.joined-returns-clause-gives
joined-returns-clause-gives t c = is_done after_bars part (sum_with (behind c.args.depth)) c.loop-after.parts c.loop-after.rest.now (tails after_bars part (sum_with (behind c.args.depth)) c.args.tokens.now) c.loop-after.invariant.going (sym c.in_default.ensures.gives)

pub further_items-returns-in_err-part-clause-gives : goal.further_items-returns-in_err-part-clause-gives
further_items-returns-in_err-part-clause-gives t c =
    let p = err_from_is_err_and c.from_residual.result c.from_residual.ensures.1 in
    rw (p.1, p.2) (ends c.in_err-part.field-0.0 after_comma part (behind c.args.depth Parenthesis) c.loop-after.parts c.loop-after.rest.now c.in-Some.after.now (tails after_comma part (behind c.args.depth Parenthesis) c.args.tokens.now) tt c.loop-after.invariant.going (sym c.in-Some.ensures.gives) (omega (arith, c.in-Some.ensures.shorter)) c.in_err-part.ensures.gives)

pub further_items-loop-after-preserved : goal.further_items-loop-after-preserved
further_items-loop-after-preserved t c = record {
  going = rw c.in_ok-push.ensures.ok (goes_on after_comma part (behind c.args.depth Parenthesis) c.loop-after.parts c.loop-after.rest.now c.in-Some.after.now c.in_ok-part.after.now (tails after_comma part (behind c.args.depth Parenthesis) c.args.tokens.now) tt c.in_ok-part.part c.loop-after.invariant.going (sym c.in-Some.ensures.gives) c.in_ok-part.ensures.gives (omega (arith, c.in-Some.ensures.shorter, c.in_ok-part.ensures.shorter)));
  short = omega (arith, c.in-Some.ensures.shorter, c.in_ok-part.ensures.shorter);
}

pub further_items-returns-clause-gives : goal.further_items-returns-clause-gives
further_items-returns-clause-gives t c = is_done after_comma part (behind c.args.depth Parenthesis) c.loop-after.parts c.loop-after.rest.now (tails after_comma part (behind c.args.depth Parenthesis) c.args.tokens.now) c.loop-after.invariant.going (sym c.in_default.ensures.gives)

pub conjuncts-returns-in_err-part-clause-gives : goal.conjuncts-returns-in_err-part-clause-gives
conjuncts-returns-in_err-part-clause-gives t c =
    let p = err_from_is_err_and c.from_residual.result c.from_residual.ensures.1 in
    rw (p.1, p.2) (ends c.in_err-part.field-0.0 after_and part (not_with (behind c.args.depth)) c.loop-after.parts c.loop-after.rest.now c.in-Some.after.now (tails after_and part (not_with (behind c.args.depth)) c.args.tokens.now) tt c.loop-after.invariant.going (sym c.in-Some.ensures.gives) (omega (arith, c.in-Some.ensures.shorter)) c.in_err-part.ensures.gives)

pub conjuncts-loop-after-preserved : goal.conjuncts-loop-after-preserved
conjuncts-loop-after-preserved t c = record {
  going = rw c.in_ok-push.ensures.ok (goes_on after_and part (not_with (behind c.args.depth)) c.loop-after.parts c.loop-after.rest.now c.in-Some.after.now c.in_ok-part.after.now (tails after_and part (not_with (behind c.args.depth)) c.args.tokens.now) tt c.in_ok-part.part c.loop-after.invariant.going (sym c.in-Some.ensures.gives) c.in_ok-part.ensures.gives (omega (arith, c.in-Some.ensures.shorter, c.in_ok-part.ensures.shorter)));
  short = omega (arith, c.in-Some.ensures.shorter, c.in_ok-part.ensures.shorter);
}

pub conjuncts-returns-clause-gives : goal.conjuncts-returns-clause-gives
conjuncts-returns-clause-gives t c = is_done after_and part (not_with (behind c.args.depth)) c.loop-after.parts c.loop-after.rest.now (tails after_and part (not_with (behind c.args.depth)) c.args.tokens.now) c.loop-after.invariant.going (sym c.in_default.ensures.gives)

pub disjuncts-returns-in_err-part-clause-gives : goal.disjuncts-returns-in_err-part-clause-gives
disjuncts-returns-in_err-part-clause-gives t c =
    let p = err_from_is_err_and c.from_residual.result c.from_residual.ensures.1 in
    rw (p.1, p.2) (ends c.in_err-part.field-0.0 after_or part (and_with (behind c.args.depth)) c.loop-after.parts c.loop-after.rest.now c.in-Some.after.now (tails after_or part (and_with (behind c.args.depth)) c.args.tokens.now) tt c.loop-after.invariant.going (sym c.in-Some.ensures.gives) (omega (arith, c.in-Some.ensures.shorter)) c.in_err-part.ensures.gives)

pub disjuncts-loop-after-preserved : goal.disjuncts-loop-after-preserved
disjuncts-loop-after-preserved t c = record {
  going = rw c.in_ok-push.ensures.ok (goes_on after_or part (and_with (behind c.args.depth)) c.loop-after.parts c.loop-after.rest.now c.in-Some.after.now c.in_ok-part.after.now (tails after_or part (and_with (behind c.args.depth)) c.args.tokens.now) tt c.in_ok-part.part c.loop-after.invariant.going (sym c.in-Some.ensures.gives) c.in_ok-part.ensures.gives (omega (arith, c.in-Some.ensures.shorter, c.in_ok-part.ensures.shorter)));
  short = omega (arith, c.in-Some.ensures.shorter, c.in_ok-part.ensures.shorter);
}

pub disjuncts-returns-clause-gives : goal.disjuncts-returns-clause-gives
disjuncts-returns-clause-gives t c = is_done after_or part (and_with (behind c.args.depth)) c.loop-after.parts c.loop-after.rest.now (tails after_or part (and_with (behind c.args.depth)) c.args.tokens.now) c.loop-after.invariant.going (sym c.in_default.ensures.gives)
