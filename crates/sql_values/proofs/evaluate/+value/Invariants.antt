use Rattle.std.proofs.Common.{◌≡◌, drop, map}
use Rattle.std.specs.Prelude.{true, Ok}
use Rattle.typed_sql.specs.declared.typed.TypedExpr.{TypedExpr}
use Rattle.sql_tree.specs.declared.expr.Comparison.TheVariants as how
use Rattle.sql_values.specs.Outcome.{made}
use Rattle.sql_values.specs.Order.{compared}
use Rattle.sql_values.specs.Logic.{junction}
use Rattle.sql_values.specs.Meaning.{around_of, value_in, sum_of, product_of, text_of}
use Rattle.sql_values.proofs.Chains.{texts_behind}
use Rattle.sql_values.proofs.Junctions.{behind_parts}
use Rattle.sql_values.proofs.Forms.{summand_in, factor_in}
use Rattle.sql_values.proofs.evaluate.+value.Given as goal

abbrev pub invariant-junction-loop-part : goal.invariant-junction-loop-part
invariant-junction-loop-part l = behind_parts l.stop l.unknown (map (value_in (around_of l.around)) (drop l.part-index l.parts))
    ≡ junction l.stop (map (value_in (around_of l.around)) l.parts)

abbrev pub invariant-among-loop-entry : goal.invariant-among-loop-entry
invariant-among-loop-entry l =
    behind_parts true l.unknown (map (λ (e : TypedExpr). made (compared how.Equal l.of) (value_in (around_of l.around) e)) (drop l.entry-index l.entries))
    ≡ junction true (map (λ (e : TypedExpr). made (compared how.Equal l.of) (value_in (around_of l.around) e)) l.entries)

abbrev pub invariant-text_of-loop-part : goal.invariant-text_of-loop-part
invariant-text_of-loop-part l =
    texts_behind l.text (map (value_in (around_of l.around)) (drop l.part-index l.parts)) ≡ text_of (map (value_in (around_of l.around)) l.parts)

abbrev pub invariant-sum_of-loop-part : goal.invariant-sum_of-loop-part
invariant-sum_of-loop-part l = sum_of (Ok l.sum) (map (summand_in (around_of l.around)) (drop l.part-index l.parts))
    ≡ sum_of (Ok l.fn.first) (map (summand_in (around_of l.around)) l.parts)

abbrev pub invariant-product_of-loop-part : goal.invariant-product_of-loop-part
invariant-product_of-loop-part l = product_of (Ok l.product) (map (factor_in (around_of l.around)) (drop l.part-index l.parts))
    ≡ product_of (Ok l.fn.first) (map (factor_in (around_of l.around)) l.parts)
