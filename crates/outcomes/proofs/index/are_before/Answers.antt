use Rattle.std.proofs.Common.{ap, sym, ◌∙◌}
use Rattle.std.specs.Ordering.{is_lt}
use Rattle.backend_trait.specs.Keys.{place}
use Rattle.outcomes.specs.Chains.{chained}
use Rattle.outcomes.proofs.Standing.{last_before, lt_is, none_before}
use Rattle.outcomes.proofs.index.are_before.Goals as goal

pub returns-in-None : goal.returns-in-None
returns-in-None c = λ e. none_before chained (place c.args.table c.args.key.now) c.args.chains.now c.last.result c.in-None.is c.last.ensures.item

pub returns-in-Some : goal.returns-in-Some
returns-in-Some c = λ e.
    last_before chained (place c.args.table c.args.key.now) c.args.chains.now c.last.result c.in-Some.last c.requires c.in-Some.is c.last.ensures.item
    (lt_is _ (sym (ap is_lt c.order_at.ensures) ∙ (sym c.is_lt.ensures ∙ e)))
