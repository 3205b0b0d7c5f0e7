use Rattle.std.proofs.Common.{rules, is_lt, Bor}
use Rattle.std.proofs.lemmas.List.Sorted.{ranks_by}
use Rattle.std.proofs.lemmas.Fn.{always_returns_same}
use Rattle.sql_eval.specs.declared.effect.Change.{Change}
use Rattle.backend_trait.specs.Effect.{place_changed}
use Rattle.backend_trait.specs.Keys.{place_order}
use Rattle.backend_trait.proofs.KeyLaws.{place_total}
use Rattle.outcomes.proofs.Ordered.{laid_in_order}
use Rattle.outcomes.proofs.gathered.put_in_order.Goals as goal

pub returns : goal.returns
returns c =
    laid_in_order (λ (d : Bor Change). d.now) c.args.all.now.items c.sort_by.new.self.items
    (c.sort_by.ensures.stable (λ a b. is_lt (place_order (place_changed a.now) (place_changed b.now))) (ranks_by place_total (λ (d : Bor Change). place_changed d.now))
    (always_returns_same _ _ _ (λ a r f k. search rules)))
