use Rattle.std.proofs.Common.{◌≡◌, List, map, drop, ap, sym, ◌∙◌, arith}
use Rattle.std.specs.Prelude.{Option, None}
use Rattle.std.proofs.lemmas.List.{at_drop_all}
use Rattle.pg_values.specs.declared.col_type.ColType.{ColType}
use Rattle.sql_tree.specs.declared.expr.SumPart.{SumPart}
use Rattle.sql_tree.specs.declared.expr.ProductPart.{ProductPart}
use Rattle.typed_sql.specs.Own.{own, own_kind, chained_kind, joined_kind}
use Rattle.typed_sql.specs.Meaning.{scope_of}
use Rattle.typed_sql.proofs.OwnForms.{least_kind, other_kind, chained_next}
use Rattle.typed_sql.proofs.own.+own.Goals as goal

pub minus_own-returns-then-is_least_int4 : goal.minus_own-returns-then-is_least_int4
minus_own-returns-then-is_least_int4 t c =
    let scope = scope_of c.args.scope.now in
    let known = c.args.known.now in
    least_kind (own scope known c.args.of.now) (sym c.if-is_least_int4.true ∙ c.is_least_int4.ensures scope known)

pub minus_own-returns : goal.minus_own-returns
minus_own-returns t c =
    let scope = scope_of c.args.scope.now in
    let known = c.args.known.now in
    other_kind (own scope known c.args.of.now) c.joined_kind.result (sym c.if-is_least_int4.false ∙ c.is_least_int4.ensures scope known)
    (c.joined_kind.ensures ∙ ap (λ (o : Option ColType). joined_kind o None) c.own_kind.ensures)

pub sum_own-loop-part-preserved : goal.sum_own-loop-part-preserved
sum_own-loop-part-preserved t c =
    let f = λ (s : SumPart). own_kind (scope_of c.args.scope.now) c.args.known.now s.part in
    chained_next f c.args.parts.now c.loop-part.part-index c.loop-part.kind (chained_kind c.args.first (map f c.args.parts.now))
    c.part-item.result c.own_kind.result c.joined_kind.result (omega arith) c.part-item.is c.loop-part.invariant c.own_kind.ensures c.joined_kind.ensures

pub sum_own-returns : goal.sum_own-returns
sum_own-returns t c =
    sym (at_drop_all (λ (ys : List SumPart). chained_kind c.loop-part.kind (map (λ (s : SumPart). own_kind (scope_of c.args.scope.now) c.args.known.now s.part) ys))
    c.args.parts.now c.loop-part.part-index (omega arith)) ∙ c.loop-part.invariant

pub product_own-loop-part-preserved : goal.product_own-loop-part-preserved
product_own-loop-part-preserved t c =
    let f = λ (s : ProductPart). own_kind (scope_of c.args.scope.now) c.args.known.now s.part in
    chained_next f c.args.parts.now c.loop-part.part-index c.loop-part.kind (chained_kind c.args.first (map f c.args.parts.now))
    c.part-item.result c.own_kind.result c.joined_kind.result (omega arith) c.part-item.is c.loop-part.invariant c.own_kind.ensures c.joined_kind.ensures

pub product_own-returns : goal.product_own-returns
product_own-returns t c =
    sym (at_drop_all (λ (ys : List ProductPart). chained_kind c.loop-part.kind (map (λ (s : ProductPart). own_kind (scope_of c.args.scope.now) c.args.known.now s.part) ys))
    c.args.parts.now c.loop-part.part-index (omega arith)) ∙ c.loop-part.invariant
