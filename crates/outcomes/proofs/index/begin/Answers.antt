use Rattle.std.proofs.Common.{◌∷◌, ◌++◌, [], List, rules, refl, ap, ◌∙◌}
use Rattle.backend_trait.specs.Effect.{place_changed}
use Rattle.outcomes.specs.declared.chain.Version.{Version}
use Rattle.outcomes.proofs.Chained.{begun_at, chain_is}
use Rattle.outcomes.proofs.index.begin.Goals as goal

pub returns : goal.returns
returns c =
    begun_at c.args.chains.now.items c.insert.new.self.items c.args.number (record { table = c.args.change.now.table; key = c.in_ok-key.key; versions = c.push.new.self }) (place_changed c.args.change.now) c.args.version c.in_ok-insert.ensures.items
    (chain_is (record { table = c.args.change.now.table; key = c.in_ok-key.key; versions = c.push.new.self }) c.args.change.now c.args.version refl (search rules)
    (c.in_ok-push.ensures.items ∙ ap (λ (vs : List Version). vs ++ c.args.version ∷ []) c.in_ok-versions.ensures.items)) c.requires.sorted c.requires.between
