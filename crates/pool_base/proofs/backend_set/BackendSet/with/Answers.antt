use Rattle.std.proofs.Common.{rules, ◌+◌, ◌<◌, ℕ, sym, subst, ◌∙◌}
use Rattle.std.proofs.Math.Facts.{Fits-of_lt}
use Rattle.pool_base.proofs.Finite.{with_fits, gains_by}
use Rattle.pool_base.proofs.backend_set.BackendSet.with.Goals as goal

pub overflow_add-result : goal.overflow_add-result
overflow_add-result c =
    Fits-of_lt (subst (λ (w : ℕ). c.args.self.now.bits + w < 256) (sym c.weight.ensures) (with_fits c.args.self.now.bits c.args.b.number (search rules) c.args.b.below_8 (sym c.has.ensures ∙ c.if-has.false)))

pub returns-else-has-clause-members : goal.returns-else-has-clause-members
returns-else-has-clause-members c =
    gains_by c.args.self.now.bits c.args.b.number c.weight.result (search rules) c.args.b.below_8 (sym c.has.ensures ∙ c.if-has.false) c.weight.ensures
