use Rattle.std.proofs.Common.{Bor}
use Rattle.std.specs.Option.{option_map}
use Rattle.pg_values.specs.declared.value.Value.{Value}
use Rattle.outcomes.proofs.Chained.{chain_answered}
use Rattle.outcomes.proofs.layers.Layers.below.Goals as goal

pub returns : goal.returns
returns c =
    let index = c.args.self.now.index.now in
    chain_answered c.args.self.now.mark c.args.table (option_map (λ (k : Bor Value). k.now) c.args.after) index.chains.items c.as_slice-chains.result.now c.first_of.result _ c.as_slice-chains.ensures.value
    index.sorted c.first_of.ensures c.first_shown.ensures
