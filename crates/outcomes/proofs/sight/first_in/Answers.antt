use Rattle.std.proofs.Common.{rules, of_calls}
use Rattle.std.proofs.lemmas.Fn.{always_returns_same}
use Rattle.sql_eval.specs.declared.row.Row.{Row}
use Rattle.outcomes.specs.Sights.{is_before, stood}
use Rattle.outcomes.proofs.Standing.{before_falls, parted_at, tests_fall}
use Rattle.outcomes.proofs.sight.first_in.Goals as goal

pub returns : goal.returns
returns c =
    let test = is_before {Y = Row} c.args.table in
    parted_at stood test c.args.rows.now c.partition_point.result c.partition_point.ensures.bound
    (c.partition_point.ensures.partitioned (λ y. test (stood y)) (always_returns_same _ _ _ (λ a r f k. search (rules, of_calls)))
    (tests_fall stood test (before_falls c.args.table) c.args.rows.now c.requires))
