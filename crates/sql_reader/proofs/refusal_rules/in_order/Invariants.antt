use Rattle.std.proofs.Common.{◌≡◌, take, reverse}
use Rattle.sql_reader.specs.Rules.{in_order}
use Rattle.sql_reader.proofs.refusal_rules.in_order.Given as goal

-- so it is behind the tokens that were passed
abbrev pub invariant-loop-token : goal.invariant-loop-token
invariant-loop-token l = in_order (reverse (take l.token-index l.before)) ≡ l.ordered
