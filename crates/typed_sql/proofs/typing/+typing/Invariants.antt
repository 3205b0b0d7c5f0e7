use Rattle.std.proofs.Common.{take}
use Rattle.std.specs.Prelude.{Ok}
use Rattle.sql_tree.specs.declared.expr.SumPart.{SumPart}
use Rattle.sql_tree.specs.declared.expr.ProductPart.{ProductPart}
use Rattle.typed_sql.specs.declared.typed.TypedSumPart.{TypedSumPart}
use Rattle.typed_sql.specs.declared.typed.TypedProductPart.{TypedProductPart}
use Rattle.typed_sql.specs.Steps.{Each}
use Rattle.typed_sql.specs.Typing.{Typed, summand_of, factor_of}
use Rattle.typed_sql.specs.Meaning.{scope_of}
use Rattle.typed_sql.proofs.Chains.{IsSoFar}
use Rattle.typed_sql.proofs.typing.+typing.Given as goal

abbrev pub invariant-all-loop-part : goal.invariant-all-loop-part
invariant-all-loop-part l = Each (λ part. Typed (scope_of l.check.scope) part l.asks) (take l.part-index l.parts) l.initial.known.items (Ok (l.made, l.known.items))

abbrev pub invariant-summands-loop-part : goal.invariant-summands-loop-part
invariant-summands-loop-part l = IsSoFar (λ (s : SumPart). Typed (scope_of l.check.scope) s.part) summand_of (λ (q : TypedSumPart). q.part.kind)
    l.fn.first l.parts l.part-index l.initial.known.items l.made l.known.items l.kind

abbrev pub invariant-factors-loop-part : goal.invariant-factors-loop-part
invariant-factors-loop-part l = IsSoFar (λ (s : ProductPart). Typed (scope_of l.check.scope) s.part) factor_of (λ (q : TypedProductPart). q.part.kind)
    l.fn.first l.parts l.part-index l.initial.known.items l.made l.known.items l.kind
