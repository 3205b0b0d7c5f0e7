use Rattle.std.proofs.Common.{sym, ◌∙◌, subst, Bor}
use Rattle.std.specs.Prelude.{IfSome, Option}
use Rattle.pg_values.specs.declared.value.Value.{Value}
use Rattle.sql_eval.specs.Seeking.{IsFirstKey}
use Rattle.sql_eval.proofs.Asking.{is_not}
use Rattle.sql_eval.proofs.Ranks.{sole_text}
use Rattle.sql_eval.proofs.candidates.is_text_key.Goals as goal

pub returns-in-Some : goal.returns-in-Some
returns-in-Some g c = λ there.
    let view = g.V.TableView.rows c.args.view.now in
    sole_text c.args.constant.now (c.is_some_text.ensures c.if-not-is_some_text.false) view c.args.table c.in-Some.own.now
    (subst (λ (o : Option (Bor Value)). IfSome o (λ (v : Bor Value). IsFirstKey view c.args.table v.now)) c.in-Some.is c.first_key.ensures)
    (sym c.is_null.ensures ∙ is_not c.is_null.result there)
