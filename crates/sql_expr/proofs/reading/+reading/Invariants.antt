use Rattle.std.proofs.Common.{◌+◌, ◌*◌, ◌≤◌, length}
use Rattle.sql_tokens.specs.Grammar.{part}
use Rattle.sql_tokens.specs.Reading.{tails}
use Rattle.sql_expr.specs.declared.opening.Opening.TheVariants.{Parenthesis}
use Rattle.sql_expr.specs.Grammar.{sum_part, product_part}
use Rattle.sql_expr.specs.Reading.{after_or, after_and, after_comma, after_bars, after_sign, after_factor_sign, un_with, product_with, sum_with, not_with, and_with, behind}
use Rattle.sql_tokens.proofs.Loops.{Going}
use Rattle.sql_expr.proofs.reading.+reading.Given as goal

abbrev pub decreases-nested : goal.decreases-nested
decreases-nested l = 20 * l.depth + 0

abbrev pub decreases-named : goal.decreases-named
decreases-named l = 20 * l.depth + 1

abbrev pub decreases-primary : goal.decreases-primary
decreases-primary l = 20 * l.depth + 2

abbrev pub decreases-unary : goal.decreases-unary
decreases-unary l = 20 * l.depth + 3

abbrev pub decreases-minus : goal.decreases-minus
decreases-minus l = 20 * l.depth + 4

abbrev pub decreases-factors : goal.decreases-factors
decreases-factors l = 20 * l.depth + 4

abbrev pub decreases-product : goal.decreases-product
decreases-product l = 20 * l.depth + 5

abbrev pub decreases-summands : goal.decreases-summands
decreases-summands l = 20 * l.depth + 6

abbrev pub decreases-sum : goal.decreases-sum
decreases-sum l = 20 * l.depth + 7

abbrev pub decreases-joined : goal.decreases-joined
decreases-joined l = 20 * l.depth + 8

abbrev pub decreases-concatenation : goal.decreases-concatenation
decreases-concatenation l = 20 * l.depth + 9

abbrev pub decreases-further_items : goal.decreases-further_items
decreases-further_items l = 20 * l.depth + 1

abbrev pub decreases-items : goal.decreases-items
decreases-items l = 20 * l.depth + 2

abbrev pub decreases-list : goal.decreases-list
decreases-list l = 20 * l.depth + 3

abbrev pub decreases-member : goal.decreases-member
decreases-member l = 20 * l.depth + 4

abbrev pub decreases-member_or : goal.decreases-member_or
decreases-member_or l = 20 * l.depth + 5

abbrev pub decreases-membership : goal.decreases-membership
decreases-membership l = 20 * l.depth + 10

abbrev pub decreases-compared : goal.decreases-compared
decreases-compared l = 20 * l.depth + 11

abbrev pub decreases-compared_or : goal.decreases-compared_or
decreases-compared_or l = 20 * l.depth + 12

abbrev pub decreases-comparison : goal.decreases-comparison
decreases-comparison l = 20 * l.depth + 13

abbrev pub decreases-test : goal.decreases-test
decreases-test l = 20 * l.depth + 14

abbrev pub decreases-negated : goal.decreases-negated
decreases-negated l = 20 * l.depth + 16

abbrev pub decreases-negation : goal.decreases-negation
decreases-negation l = 20 * l.depth + 15

abbrev pub decreases-conjuncts : goal.decreases-conjuncts
decreases-conjuncts l = 20 * l.depth + 16

abbrev pub decreases-conjunction : goal.decreases-conjunction
decreases-conjunction l = 20 * l.depth + 17

abbrev pub decreases-disjuncts : goal.decreases-disjuncts
decreases-disjuncts l = 20 * l.depth + 18

abbrev pub decreases-disjunction : goal.decreases-disjunction
decreases-disjunction l = 20 * l.depth + 19

abbrev pub invariant-factors-loop-sign : goal.invariant-factors-loop-sign
invariant-factors-loop-sign l = record { going : Going after_factor_sign product_part (un_with (behind l.depth)) l.parts l.rest (tails after_factor_sign product_part (un_with (behind l.depth)) l.tokens); short : length l.rest ≤ length l.tokens }

abbrev pub decreases-factors-loop-sign : goal.decreases-factors-loop-sign
decreases-factors-loop-sign l = length l.rest

abbrev pub invariant-summands-loop-minus : goal.invariant-summands-loop-minus
invariant-summands-loop-minus l = record { going : Going after_sign sum_part (product_with (behind l.depth)) l.parts l.rest (tails after_sign sum_part (product_with (behind l.depth)) l.tokens); short : length l.rest ≤ length l.tokens }

abbrev pub decreases-summands-loop-minus : goal.decreases-summands-loop-minus
decreases-summands-loop-minus l = length l.rest

abbrev pub invariant-joined-loop-after : goal.invariant-joined-loop-after
invariant-joined-loop-after l = record { going : Going after_bars part (sum_with (behind l.depth)) l.parts l.rest (tails after_bars part (sum_with (behind l.depth)) l.tokens); short : length l.rest ≤ length l.tokens }

abbrev pub decreases-joined-loop-after : goal.decreases-joined-loop-after
decreases-joined-loop-after l = length l.rest

abbrev pub invariant-further_items-loop-after : goal.invariant-further_items-loop-after
invariant-further_items-loop-after l = record { going : Going after_comma part (behind l.depth Parenthesis) l.parts l.rest (tails after_comma part (behind l.depth Parenthesis) l.tokens); short : length l.rest ≤ length l.tokens }

abbrev pub decreases-further_items-loop-after : goal.decreases-further_items-loop-after
decreases-further_items-loop-after l = length l.rest

abbrev pub invariant-conjuncts-loop-after : goal.invariant-conjuncts-loop-after
invariant-conjuncts-loop-after l = record { going : Going after_and part (not_with (behind l.depth)) l.parts l.rest (tails after_and part (not_with (behind l.depth)) l.tokens); short : length l.rest ≤ length l.tokens }

abbrev pub decreases-conjuncts-loop-after : goal.decreases-conjuncts-loop-after
decreases-conjuncts-loop-after l = length l.rest

abbrev pub invariant-disjuncts-loop-after : goal.invariant-disjuncts-loop-after
invariant-disjuncts-loop-after l = record { going : Going after_or part (and_with (behind l.depth)) l.parts l.rest (tails after_or part (and_with (behind l.depth)) l.tokens); short : length l.rest ≤ length l.tokens }

abbrev pub decreases-disjuncts-loop-after : goal.decreases-disjuncts-loop-after
decreases-disjuncts-loop-after l = length l.rest
