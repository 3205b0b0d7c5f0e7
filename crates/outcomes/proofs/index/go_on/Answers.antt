use Rattle.std.proofs.lemmas.Result.{on_ok_weaker}
use Rattle.outcomes.proofs.Chained.{went_on_at}
use Rattle.outcomes.proofs.index.go_on.Goals as goal

pub returns : goal.returns
returns c = λ p at.
    on_ok_weaker c.lengthen.result
    (λ h. went_on_at c.args.chains.now.items c.args.number c.index_mut.result.now c.lengthen.new.chain p c.args.version c.requires.below c.index_mut.ensures.value h c.requires.sorted at) c.lengthen.ensures
