use Rattle.std.proofs.Common.{rules, sym, ◌∙◌}
use Rattle.postgres_link.proofs.Tags.{counts_reading}
use Rattle.postgres_link.proofs.tag.counted.Goals as goal

pub returns : goal.returns
returns c = counts_reading c.args.front.now c.args.tag.now _ c.count_of.result (sym c.split_at.ensures.front ∙ search rules) c.split_at.ensures.back c.count_of.ensures
