use Rattle.std.proofs.Common.{◌≡◌, drop, map}
use Rattle.sql_tree.specs.declared.expr.SumPart.{SumPart}
use Rattle.sql_tree.specs.declared.expr.ProductPart.{ProductPart}
use Rattle.typed_sql.specs.Own.{own_kind, chained_kind}
use Rattle.typed_sql.specs.Meaning.{scope_of}
use Rattle.typed_sql.proofs.own.+own.Given as goal

abbrev pub invariant-sum_own-loop-part : goal.invariant-sum_own-loop-part
invariant-sum_own-loop-part l = chained_kind l.kind (map (λ (s : SumPart). own_kind (scope_of l.scope) l.known s.part) (drop l.part-index l.parts))
    ≡ chained_kind l.fn.first (map (λ (s : SumPart). own_kind (scope_of l.scope) l.known s.part) l.parts)

abbrev pub invariant-product_own-loop-part : goal.invariant-product_own-loop-part
invariant-product_own-loop-part l = chained_kind l.kind (map (λ (s : ProductPart). own_kind (scope_of l.scope) l.known s.part) (drop l.part-index l.parts))
    ≡ chained_kind l.fn.first (map (λ (s : ProductPart). own_kind (scope_of l.scope) l.known s.part) l.parts)
