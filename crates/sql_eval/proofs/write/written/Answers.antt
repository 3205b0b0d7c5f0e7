use Rattle.std.proofs.Common.{◌≡◌, List, length, ap, refl, sym, subst, arith}
use Rattle.std.specs.Prelude.{Result, Ok, Err}
use Rattle.sql_values.specs.declared.fault.ExprFault.{ExprFault}
use Rattle.sql_eval.specs.declared.effect.Change.{Change}
use Rattle.sql_eval.specs.declared.effect.EvalFault.{EvalFault}
use Rattle.sql_eval.specs.Walks.{Coded, GivesAs, made}
use Rattle.sql_eval.specs.Effects.{Writes, IsWrite}
use Rattle.sql_eval.proofs.Refusing.{write_refused}
use Rattle.sql_eval.proofs.write.written.Goals as goal

pub returns-in-Ok : goal.returns-in-Ok
returns-in-Ok c = λ (told : Coded (List Change)) gives.
    let is : told ≡ Ok c.in-Ok.changes = subst (λ (r : Result (List Change) ExprFault). GivesAs (λ (cs : List Change). cs) r told) c.in-Ok.is gives in
    (refl, ap (made Writes) is, omega (arith, c.len-count.ensures))

pub returns-in-Err : goal.returns-in-Err
returns-in-Err c = λ (told : Coded (List Change)) gives.
    subst (λ (e : EvalFault). IsWrite (Err e) (record { draws = c.args.draws; given = made Writes told })) (sym c.with_draws.ensures)
    (write_refused c.args.draws c.in-Err.fault told (subst (λ (r : Result (List Change) ExprFault). GivesAs (λ (cs : List Change). cs) r told) c.in-Err.is gives))
