use Rattle.std.proofs.Common.{ℤ, ap, ◌∙◌}
use Rattle.std.proofs.lemmas.Int.{to_z-of_z}
use Rattle.time_rewrite.specs.Rewriting.{body_at}
use Rattle.time_rewrite.proofs.Wholes.{whole}
use Rattle.time_rewrite.proofs.statement.checked_at.Goals as goal

pub returns : goal.returns
returns c =
    whole c.args.moment c.args.checked.now c.in_ok-body.body c.in_ok-columns.columns c.in_ok-kinds.kinds
    (c.in_ok-body.ensures ∙ ap (λ (m : ℤ). body_at m c.args.checked.now.body) (to_z-of_z _ c.args.moment c.ranges.moment)) c.in_ok-columns.ensures c.in_ok-kinds.ensures
