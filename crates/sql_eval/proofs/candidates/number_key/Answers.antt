use Rattle.std.proofs.Common.{subst, Bor}
use Rattle.std.specs.Prelude.{IfSome, Option}
use Rattle.pg_values.specs.declared.value.Value.{Value}
use Rattle.sql_eval.specs.Seeking.{IsFirstKey, IsInKind, IsSole}
use Rattle.sql_eval.proofs.Asking.{if_there}
use Rattle.sql_eval.proofs.Ranks.{sole_number}
use Rattle.sql_eval.proofs.candidates.number_key.Goals as goal

pub returns : goal.returns
returns g c =
    let view = g.V.TableView.rows c.args.view.now in
    let own = c.in-Some.own.now in
    let constant = c.args.constant.now in
    if_there c.in_kind.result (λ (k : Value). IsInKind k own constant) (λ (k : Value). IsSole view c.args.table k constant)
    (λ k kind. sole_number k own constant kind view c.args.table
    (subst (λ (o : Option (Bor Value)). IfSome o (λ (v : Bor Value). IsFirstKey view c.args.table v.now)) c.in-Some.is c.first_key.ensures)
    (c.is_last_kind.ensures c.if-not-is_last_kind.false)) c.in_kind.ensures
