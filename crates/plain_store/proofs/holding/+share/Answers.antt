use Rattle.std.proofs.Common.{map, sym, ap, ◌∙◌}
use Rattle.outcomes.specs.Spots.{place_of}
use Rattle.plain_store.proofs.PlaceLaws.{share_more}
use Rattle.plain_store.proofs.holding.+share.Goals as goal

pub returns-else-has_spot : goal.returns-else-has_spot
returns-else-has_spot t c =
    c.share.ensures
    ∙ sym (share_more c.args.a.now (map place_of c.args.b.now) c.first-item.result c.in-len1-up.len_at_least c.first-item.is
    (sym c.has_spot.ensures ∙ c.if-has_spot.false))
