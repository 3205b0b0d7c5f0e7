use Rattle.std.proofs.Common.{Bor}
use Rattle.std.specs.Prelude.{Some}
use Rattle.pg_values.specs.declared.value.Value.{Value}
use Rattle.sql_eval.specs.Seeking.{ComesTo, Seeks, key_is}
use Rattle.sql_eval.proofs.Asking.{equal_seeks, if_there}
use Rattle.sql_eval.proofs.sought.constant_of.Goals as goal

pub returns-in_default : goal.returns-in_default
returns-in_default c =
    let filter = c.args.filter.now in
    if_there c.constant_equal.result (λ (v : Bor Value). ComesTo filter (key_is c.args.key v.now)) (λ (v : Bor Value). Seeks (Some filter) c.args.key v.now)
    (λ v comes. equal_seeks filter c.args.key v.now comes) c.constant_equal.ensures
