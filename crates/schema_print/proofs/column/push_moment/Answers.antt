use Rattle.std.proofs.Common.{sym, subst}
use Rattle.std.specs.Prelude.{Some}
use Rattle.std.proofs.lemmas.Result.{on_ok_weaker}
use Rattle.pg_values.specs.Text.{IsTextOf}
use Rattle.sql_print.specs.Spelling.{spelled, string}
use Rattle.schema_print.proofs.Moments.{shows}
use Rattle.schema_print.proofs.column.push_moment.Goals as goal

pub returns : goal.returns
returns c =
    let printed = c.as_str.result.now in
    let text : IsTextOf c.args.value.now (Some printed) = subst (λ t. IsTextOf c.args.value.now (Some t)) (sym c.as_str.ensures) c.in_ok-printed.ensures in
    on_ok_weaker c.push_string.result (λ added. (spelled (string printed), shows c.args.value.now printed c.requires text, added)) c.push_string.ensures
