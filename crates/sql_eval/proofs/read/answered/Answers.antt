use Rattle.std.proofs.Common.{◌≡◌, ap, refl, sym, subst}
use Rattle.std.specs.Prelude.{Result, Ok, Err}
use Rattle.sql_values.specs.declared.fault.ExprFault.{ExprFault}
use Rattle.sql_eval.specs.declared.effect.ReadEffect.{ReadEffect}
use Rattle.sql_eval.specs.declared.effect.EvalFault.{EvalFault}
use Rattle.sql_eval.specs.Walks.{Coded, GivesAs, made}
use Rattle.sql_eval.specs.Effects.{Reads, IsRead}
use Rattle.sql_eval.proofs.Refusing.{read_refused}
use Rattle.sql_eval.proofs.read.answered.Goals as goal

pub returns-in-Ok : goal.returns-in-Ok
returns-in-Ok c = λ (told : Coded ReadEffect) gives.
    let is : told ≡ Ok c.in-Ok.effect = subst (λ (r : Result ReadEffect ExprFault). GivesAs (λ (e : ReadEffect). e) r told) c.in-Ok.is gives in
    (refl, ap (made Reads) is)

pub returns-in-Err : goal.returns-in-Err
returns-in-Err c = λ (told : Coded ReadEffect) gives.
    subst (λ (e : EvalFault). IsRead (Err e) (record { draws = 0; given = made Reads told })) (sym c.with_draws.ensures)
    (read_refused c.in-Err.fault told (subst (λ (r : Result ReadEffect ExprFault). GivesAs (λ (e : ReadEffect). e) r told) c.in-Err.is gives))
