use Rattle.std.proofs.Common.{rules, sym, ◌∙◌}
use Rattle.pool_base.proofs.Finite.{loses_by}
use Rattle.pool_base.proofs.backend_set.BackendSet.without.Goals as goal

pub returns-then-has-clause-members : goal.returns-then-has-clause-members
returns-then-has-clause-members c =
    loses_by c.args.self.now.bits c.args.b.number c.weight.result (search rules) c.args.b.below_8 (sym c.has.ensures ∙ c.if-has.true) c.weight.ensures
