use Rattle.std.proofs.Common.{rules, ◌≡◌}
use Rattle.pg_values.specs.Range.{IsMoment}
use Rattle.time_rewrite.specs.Rewriting.{at_moment}
use Rattle.play.proofs.Said.{kept_said}
use Rattle.play.proofs.asked.checked_asks.Goals as goal

pub returns-then-is_kept : goal.returns-then-is_kept
returns-then-is_kept c =
    let within : IsMoment c.args.moment = search rules in
    let kept : at_moment c.args.moment c.args.checked ≡ c.args.checked = search rules in
    kept_said c.args.moment c.args.checked c.class_asks.result within (c.class_asks.ensures c.args.moment kept)
