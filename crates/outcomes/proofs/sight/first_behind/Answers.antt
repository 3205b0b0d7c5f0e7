use Rattle.std.proofs.Common.{rules, of_calls}
use Rattle.std.proofs.lemmas.Fn.{always_returns_same}
use Rattle.backend_trait.specs.Keys.{place}
use Rattle.outcomes.specs.Sights.{is_up_to, stood}
use Rattle.outcomes.proofs.Standing.{parted_at, tests_fall, up_to_falls}
use Rattle.outcomes.proofs.sight.first_behind.Goals as goal

pub returns : goal.returns
returns c =
    let p = place c.args.table c.args.key.now in
    parted_at stood (is_up_to p) c.args.rows.now c.partition_point.result c.partition_point.ensures.bound
    (c.partition_point.ensures.partitioned (λ y. is_up_to p (stood y)) (always_returns_same _ _ _ (λ a r f k. search (rules, of_calls)))
    (tests_fall stood (is_up_to p) (up_to_falls p) c.args.rows.now c.requires))
