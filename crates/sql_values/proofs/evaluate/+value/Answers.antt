use Rattle.std.proofs.Common.{map, ap, sym, ◌∙◌, subst, arith}
use Rattle.std.specs.Prelude.{true, Ok}
use Rattle.std.proofs.lemmas.Result.{err_from_is_err_and}
use Rattle.sql_tree.specs.declared.expr.Comparison.TheVariants as how
use Rattle.typed_sql.specs.declared.typed.TypedExpr.{TypedExpr}
use Rattle.sql_values.specs.Outcome.{Outcome, Gives, behind, made}
use Rattle.sql_values.specs.Arithmetic.{calculated, summed, multiplied, negative}
use Rattle.sql_values.specs.Order.{compared}
use Rattle.sql_values.specs.Logic.{opposite, opposite_if, junction, among, tested}
use Rattle.sql_values.specs.Meaning.{Summand, Factor, around_of, value_in, sum_of, product_of, text_of, joined_to}
use Rattle.sql_values.proofs.Chains.{gives_fault, chain_code, chain_stops, put_stops, texts_stop, joined_stops}
use Rattle.sql_values.proofs.Forms.{at_param, at_column, at_sum, at_product, summand_in, factor_in}
use Rattle.sql_values.proofs.Members.{among_is, among_null}
use Rattle.sql_values.proofs.evaluate.+value.Goals as goal

-- ---- forms of one operand

pub negation-returns-in_err-value : goal.negation-returns-in_err-value
negation-returns-in_err-value t c =
    let A = around_of c.args.around.now in
    let p = err_from_is_err_and c.from_residual.result c.from_residual.ensures.1 in
    rw (p.1, p.2) (gives_fault c.in_err-value.field-0.0 (value_in A c.args.of.now) (made opposite (value_in A c.args.of.now)) c.in_err-value.ensures
    (λ code is. ap (made opposite) is))

pub negation-returns : goal.negation-returns
negation-returns t c =
    let A = around_of c.args.around.now in
    ap (made opposite) c.in_ok-value.ensures ∙ ap Ok (sym c.opposite.ensures)

pub null_tests-returns-in_err-value : goal.null_tests-returns-in_err-value
null_tests-returns-in_err-value t c =
    let A = around_of c.args.around.now in
    let p = err_from_is_err_and c.from_residual.result c.from_residual.ensures.1 in
    rw (p.1, p.2) (gives_fault c.in_err-value.field-0.0 (value_in A c.args.of.now) (made (λ v. tested v c.args.tests.now) (value_in A c.args.of.now)) c.in_err-value.ensures
    (λ code is. ap (made (λ v. tested v c.args.tests.now)) is))

pub null_tests-returns : goal.null_tests-returns
null_tests-returns t c =
    let A = around_of c.args.around.now in
    ap (made (λ v. tested v c.args.tests.now)) c.in_ok-value.ensures ∙ ap Ok (sym c.tested.ensures)

pub minus-returns-in_err-value : goal.minus-returns-in_err-value
minus-returns-in_err-value t c =
    let A = around_of c.args.around.now in
    let p = err_from_is_err_and c.from_residual.result c.from_residual.ensures.1 in
    rw (p.1, p.2) (gives_fault c.in_err-value.field-0.0 (value_in A c.args.of.now) (behind (value_in A c.args.of.now) negative) c.in_err-value.ensures
    (λ code is. ap (λ (o : Outcome). behind o negative) is))

pub minus-returns : goal.minus-returns
minus-returns t c =
    let A = around_of c.args.around.now in
    subst (λ (o : Outcome). Gives c.negative.result (behind o negative)) (sym c.in_ok-value.ensures) c.negative.ensures

-- ---- comparisons

pub compared_with-returns-in_err-value : goal.compared_with-returns-in_err-value
compared_with-returns-in_err-value t c =
    let A = around_of c.args.around.now in
    let p = err_from_is_err_and c.from_residual.result c.from_residual.ensures.1 in
    rw (p.1, p.2) (gives_fault c.in_err-value.field-0.0 (value_in A c.args.right.now) (made (compared c.args.how c.args.left.now) (value_in A c.args.right.now)) c.in_err-value.ensures
    (λ code is. ap (made (compared c.args.how c.args.left.now)) is))

pub compared_with-returns : goal.compared_with-returns
compared_with-returns t c =
    let A = around_of c.args.around.now in
    ap (made (compared c.args.how c.args.left.now)) c.in_ok-value.ensures ∙ ap Ok (sym c.compared.ensures)

-- ---- IN

pub found_among-returns-then-is_null : goal.found_among-returns-then-is_null
found_among-returns-then-is_null t c =
    let A = around_of c.args.around.now in
    among_null c.args.negated c.args.of.now (map (value_in A) c.args.entries.now) (sym c.is_null.ensures ∙ c.if-is_null.true)

pub found_among-returns-in_err-value : goal.found_among-returns-in_err-value
found_among-returns-in_err-value t c =
    let A = around_of c.args.around.now in
    let p = err_from_is_err_and c.from_residual.result c.from_residual.ensures.1 in
    rw (p.1, p.2) (gives_fault c.in_err-value.field-0.0
    (junction true (map (λ (e : TypedExpr). made (compared how.Equal c.args.of.now) (value_in A e)) c.args.entries.now))
    (made (opposite_if c.args.negated) (among c.args.of.now (map (value_in A) c.args.entries.now)))
    c.in_err-value.ensures
    (λ code is. ap (made (opposite_if c.args.negated))
    (among_is c.args.of.now (value_in A) c.args.entries.now (sym c.is_null.ensures ∙ c.if-is_null.false) ∙ is)))

pub found_among-returns : goal.found_among-returns
found_among-returns t c =
    let A = around_of c.args.around.now in
    ap (made (opposite_if c.args.negated))
    (among_is c.args.of.now (value_in A) c.args.entries.now (sym c.is_null.ensures ∙ c.if-is_null.false) ∙ c.in_ok-value.ensures)
    ∙ ap Ok (sym c.opposite_if.ensures)

-- ---- chains

pub sum_of-returns-in_err-summand : goal.sum_of-returns-in_err-summand
sum_of-returns-in_err-summand t c =
    let A = around_of c.args.around.now in
    let p = err_from_is_err_and c.from_residual.result c.from_residual.ensures.1 in
    rw (p.1, p.2) (gives_fault c.in_err-summand.field-0.0 (value_in A c.part-item.result.part) (sum_of (Ok c.args.first) (map (summand_in A) c.args.parts.now)) c.in_err-summand.ensures
    (λ code is. chain_stops (summand_in A) (λ (s : Summand). s.1) (λ (s : Summand). calculated (summed s.0)) c.args.parts.now c.loop-part.part-index c.part-item.result c.loop-part.sum (sum_of (Ok c.args.first) (map (summand_in A) c.args.parts.now))
    (omega arith) c.part-item.is c.loop-part.invariant code is))

pub sum_of-returns-in_err-made : goal.sum_of-returns-in_err-made
sum_of-returns-in_err-made t c =
    let A = around_of c.args.around.now in
    let p = err_from_is_err_and c.from_residual-in_err-made.result c.from_residual-in_err-made.ensures.1 in
    rw (p.1, p.2) (gives_fault c.in_err-made.field-0.0 (calculated (summed c.part-item.result.minus) c.loop-part.sum c.in_ok-summand.summand) (sum_of (Ok c.args.first) (map (summand_in A) c.args.parts.now)) c.in_err-made.ensures
    (λ code is. put_stops (summand_in A) (λ (s : Summand). s.1) (λ (s : Summand). calculated (summed s.0)) c.args.parts.now c.loop-part.part-index c.part-item.result c.loop-part.sum (sum_of (Ok c.args.first) (map (summand_in A) c.args.parts.now))
    (omega arith) c.part-item.is c.loop-part.invariant c.in_ok-summand.summand code c.in_ok-summand.ensures is))

pub product_of-returns-in_err-factor : goal.product_of-returns-in_err-factor
product_of-returns-in_err-factor t c =
    let A = around_of c.args.around.now in
    let p = err_from_is_err_and c.from_residual.result c.from_residual.ensures.1 in
    rw (p.1, p.2) (gives_fault c.in_err-factor.field-0.0 (value_in A c.part-item.result.part) (product_of (Ok c.args.first) (map (factor_in A) c.args.parts.now)) c.in_err-factor.ensures
    (λ code is. chain_stops (factor_in A) (λ (s : Factor). s.1) (λ (s : Factor). calculated (multiplied s.0)) c.args.parts.now c.loop-part.part-index c.part-item.result c.loop-part.product (product_of (Ok c.args.first) (map (factor_in A) c.args.parts.now))
    (omega arith) c.part-item.is c.loop-part.invariant code is))

pub product_of-returns-in_err-made : goal.product_of-returns-in_err-made
product_of-returns-in_err-made t c =
    let A = around_of c.args.around.now in
    let p = err_from_is_err_and c.from_residual-in_err-made.result c.from_residual-in_err-made.ensures.1 in
    rw (p.1, p.2) (gives_fault c.in_err-made.field-0.0 (calculated (multiplied c.part-item.result.sign) c.loop-part.product c.in_ok-factor.factor) (product_of (Ok c.args.first) (map (factor_in A) c.args.parts.now)) c.in_err-made.ensures
    (λ code is. put_stops (factor_in A) (λ (s : Factor). s.1) (λ (s : Factor). calculated (multiplied s.0)) c.args.parts.now c.loop-part.part-index c.part-item.result c.loop-part.product (product_of (Ok c.args.first) (map (factor_in A) c.args.parts.now))
    (omega arith) c.part-item.is c.loop-part.invariant c.in_ok-factor.factor code c.in_ok-factor.ensures is))

pub text_of-returns-in_err-back : goal.text_of-returns-in_err-back
text_of-returns-in_err-back t c =
    let A = around_of c.args.around.now in
    let p = err_from_is_err_and c.from_residual.result c.from_residual.ensures.1 in
    rw (p.1, p.2) (gives_fault c.in_err-back.field-0.0 (value_in A c.part-item.result) (text_of (map (value_in A) c.args.parts.now)) c.in_err-back.ensures
    (λ code is. texts_stop (value_in A) c.args.parts.now c.loop-part.part-index c.part-item.result c.loop-part.text (text_of (map (value_in A) c.args.parts.now))
    (omega arith) c.part-item.is c.loop-part.invariant code is))

pub text_of-returns-in_err-longer : goal.text_of-returns-in_err-longer
text_of-returns-in_err-longer t c =
    let A = around_of c.args.around.now in
    let p = err_from_is_err_and c.from_residual-in_err-longer.result c.from_residual-in_err-longer.ensures.1 in
    rw (p.1, p.2) (gives_fault c.in_err-longer.field-0.0 (joined_to c.loop-part.text c.in_ok-back.back) (text_of (map (value_in A) c.args.parts.now)) c.in_err-longer.ensures
    (λ code is. joined_stops (value_in A) c.args.parts.now c.loop-part.part-index c.part-item.result c.loop-part.text (text_of (map (value_in A) c.args.parts.now))
    (omega arith) c.part-item.is c.loop-part.invariant c.in_ok-back.back code c.in_ok-back.ensures is))

-- ---- names

pub value_of-returns-in-Param : goal.value_of-returns-in-Param
value_of-returns-in-Param t c =
    let A = around_of c.args.around.now in
    subst (λ (o : Outcome). Gives c.parameter.result o) (sym (at_param A c.args.expr.now c.in-Param.number c.in-Param.is)) c.parameter.ensures

pub value_of-returns-in-Column : goal.value_of-returns-in-Column
value_of-returns-in-Column t c =
    let A = around_of c.args.around.now in
    subst (λ (o : Outcome). Gives c.value_at.result o) (sym (at_column A c.args.expr.now c.in-Column.number c.in-Column.is)) c.value_at.ensures

pub value_of-returns-in_err-first-in-Sum : goal.value_of-returns-in_err-first-in-Sum
value_of-returns-in_err-first-in-Sum t c =
    let A = around_of c.args.around.now in
    let first = c.get-in-Sum.result.now in
    let parts = c.in-Sum.parts in
    let p = err_from_is_err_and c.from_residual-in_err-first-in-Sum.result c.from_residual-in_err-first-in-Sum.ensures.1 in
    rw (p.1, p.2) (gives_fault c.in_err-first-in-Sum.field-0.0 (value_in A first) (value_in A c.args.expr.now) c.in_err-first-in-Sum.ensures
    (λ code is. at_sum A c.args.expr.now c.in-Sum.first parts c.in-Sum.is
    ∙ (ap (λ (e : TypedExpr). sum_of (value_in A e) (map (summand_in A) parts)) (sym c.get-in-Sum.ensures)
    ∙ (ap (λ (o : Outcome). sum_of o (map (summand_in A) parts)) is
    ∙ chain_code (λ (s : Summand). s.1) (λ (s : Summand). calculated (summed s.0)) code (map (summand_in A) parts)))))

pub value_of-returns-in_err-first-in-Product : goal.value_of-returns-in_err-first-in-Product
value_of-returns-in_err-first-in-Product t c =
    let A = around_of c.args.around.now in
    let first = c.get-in-Product.result.now in
    let parts = c.in-Product.parts in
    let p = err_from_is_err_and c.from_residual-in_err-first-in-Product.result c.from_residual-in_err-first-in-Product.ensures.1 in
    rw (p.1, p.2) (gives_fault c.in_err-first-in-Product.field-0.0 (value_in A first) (value_in A c.args.expr.now) c.in_err-first-in-Product.ensures
    (λ code is. at_product A c.args.expr.now c.in-Product.first parts c.in-Product.is
    ∙ (ap (λ (e : TypedExpr). product_of (value_in A e) (map (factor_in A) parts)) (sym c.get-in-Product.ensures)
    ∙ (ap (λ (o : Outcome). product_of o (map (factor_in A) parts)) is
    ∙ chain_code (λ (s : Factor). s.1) (λ (s : Factor). calculated (multiplied s.0)) code (map (factor_in A) parts)))))
