use Rattle.std.proofs.Common.{◌≡◌, take}
use Rattle.std.specs.List.{flat_map}
use Rattle.sql_print.specs.Between.{between_token}
use Rattle.sql_print.specs.Printed.{joined, part_tokens, summand_tokens, factor_tokens}
use Rattle.sql_print.specs.Writing.{state, after}
use Rattle.sql_print.proofs.Steps.{standing}
use Rattle.sql_print.proofs.expression.+printing.Given as goal

abbrev pub invariant-write_parts-loop-part : goal.invariant-write_parts-loop-part
invariant-write_parts-loop-part l = (state l.onto ≡ after (state l.initial.onto)
    (joined (between_token l.between) part_tokens (take l.part-index l.parts)))
    × (l.before ≡ standing l.between (take l.part-index l.parts))

abbrev pub invariant-write_summands-loop-summand : goal.invariant-write_summands-loop-summand
invariant-write_summands-loop-summand l = state l.onto ≡ after (state l.initial.onto)
    (flat_map summand_tokens (take l.summand-index l.summands))

abbrev pub invariant-write_factors-loop-factor : goal.invariant-write_factors-loop-factor
invariant-write_factors-loop-factor l = state l.onto ≡ after (state l.initial.onto)
    (flat_map factor_tokens (take l.factor-index l.factors))
