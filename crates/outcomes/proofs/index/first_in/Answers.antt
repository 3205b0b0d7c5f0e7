use Rattle.std.proofs.Common.{List, rules, of_calls}
use Rattle.std.proofs.lemmas.Fn.{always_returns_same}
use Rattle.outcomes.specs.declared.chain.Version.{Version}
use Rattle.outcomes.specs.Chains.{chained}
use Rattle.outcomes.specs.Sights.{is_before}
use Rattle.outcomes.proofs.Standing.{before_falls, parted_at, tests_fall}
use Rattle.outcomes.proofs.index.first_in.Goals as goal

pub returns : goal.returns
returns c =
    let test = is_before {Y = List Version} c.args.table in
    parted_at chained test c.args.chains.now c.partition_point.result c.partition_point.ensures.bound
    (c.partition_point.ensures.partitioned (λ y. test (chained y)) (always_returns_same _ _ _ (λ a r f k. search (rules, of_calls)))
    (tests_fall chained test (before_falls c.args.table) c.args.chains.now c.requires))
