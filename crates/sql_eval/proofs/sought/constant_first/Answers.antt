use Rattle.std.proofs.Common.{arith, sym, ◌∙◌, subst, Bor}
use Rattle.std.specs.Prelude.{IfSome, Option}
use Rattle.pg_values.specs.declared.value.Value.{Value}
use Rattle.sql_eval.specs.Seeking.{ComesTo, key_is}
use Rattle.sql_eval.proofs.Asking.{false_first}
use Rattle.sql_eval.proofs.sought.constant_first.Goals as goal

pub returns-in-Some : goal.returns-in-Some
returns-in-Some c =
    false_first c.first-item.result c.args.parts.now c.args.key c.in-Some.value.now (omega (arith, c.in-len1-up.len_at_least)) c.first-item.is
    (sym c.is_null.ensures ∙ c.if-not-is_null.true)
    (subst (λ (o : Option (Bor Value)). IfSome o (λ v. ComesTo c.first-item.result (key_is c.args.key v.now))) c.in-Some.is c.constant_equal.ensures)
