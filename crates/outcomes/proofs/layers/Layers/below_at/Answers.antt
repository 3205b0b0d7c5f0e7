use Rattle.std.proofs.Common.{List, ap, sym, ◌∙◌}
use Rattle.backend_trait.specs.Keys.{place}
use Rattle.outcomes.specs.declared.chain.Version.{Version}
use Rattle.outcomes.specs.declared.chain.Chain.{Chain}
use Rattle.outcomes.specs.Chains.{row_left, shown}
use Rattle.outcomes.proofs.Chained.{chain_found, chain_unfound}
use Rattle.outcomes.proofs.layers.Layers.below_at.Goals as goal

pub returns-in-Ok : goal.returns-in-Ok
returns-in-Ok c =
    let index = c.args.self.now.index.now in
    let mark = c.args.self.now.mark in
    c.row_shown.ensures
    ∙ (ap (λ (vs : List Version). row_left (shown mark vs)) (c.as_slice.ensures.value ∙ ap (λ (chain : Chain). chain.versions.items) (sym c.index-chains-number.is))
    ∙ chain_found mark (place c.args.table c.args.key.now) index.chains.items c.as_slice-chains.result.now c.in-Ok.number c.index-chains-number.result c.as_slice-chains.ensures.value index.sorted
    c.in-Ok.ensures.at c.index-chains-number.is)

pub returns-in-Err : goal.returns-in-Err
returns-in-Err c =
    let index = c.args.self.now.index.now in
    chain_unfound c.args.self.now.mark (place c.args.table c.args.key.now) index.chains.items c.as_slice-chains.result.now c.in-Err.field-0 c.as_slice-chains.ensures.value index.sorted
    c.in-Err.ensures.between
