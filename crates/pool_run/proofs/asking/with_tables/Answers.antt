use Rattle.std.proofs.Common.{length, sym, subst}
use Rattle.std.specs.Prelude.{Result, IfOk}
use Rattle.pool_run.specs.Plan.{IsFew, IsPlayable, LinesEnd}
use Rattle.pool_run.specs.declared.plan.Lines.{Lines}
use Rattle.pool_run.specs.declared.plan.Stop.{Stop}
use Rattle.pool_run.proofs.asking.with_tables.Goals as goal

pub returns-in-Ok-clause-ends : goal.returns-in-Ok-clause-ends
returns-in-Ok-clause-ends c = λ s o e. subst (λ (r : Result Lines Stop). LinesEnd c.args.config c.args.catalogue r s o) (sym c.in-Ok.is) e

pub returns-in-Ok-clause-sound : goal.returns-in-Ok-clause-sound
returns-in-Ok-clause-sound c = record {
  configured = c.requires.configured;
  playable = subst (λ (r : Result Lines Stop). IfOk r IsPlayable) c.in-Ok.is c.requires.playable;
  in_range = c.requires.in_range;
  allowed = c.requires.allowed;
  count = subst (λ (r : Result Lines Stop). IfOk r (λ _. IsFew (length c.args.config.nodes))) c.in-Ok.is c.requires.few;
}

pub returns-in-Err-clause-ends : goal.returns-in-Err-clause-ends
returns-in-Err-clause-ends c = λ s o e. subst (λ (r : Result Lines Stop). LinesEnd c.args.config c.args.catalogue r s o) (sym c.in-Err.is) e
