use Rattle.std.proofs.Common.{Bor}
use Rattle.pg_values.specs.declared.value.Value.{Value}
use Rattle.sql_eval.specs.Seeking.{AreEqualAs, ComesTo, key_is}
use Rattle.sql_eval.proofs.Asking.{if_there, key_left, key_right}
use Rattle.sql_eval.proofs.sought.constant_beside.Goals as goal

pub returns-then-is_column : goal.returns-then-is_column
returns-then-is_column c =
    let left = c.args.left.now in
    let right = c.args.right.now in
    if_there c.constant.result (λ (v : Bor Value). ComesTo right (λ row. v.now)) (λ (v : Bor Value). AreEqualAs left right (key_is c.args.key v.now))
    (λ v constant. key_left left right c.args.key v.now (c.is_column.ensures c.if-is_column.true) constant) c.constant.ensures

pub returns-then-is_column-2 : goal.returns-then-is_column-2
returns-then-is_column-2 c =
    let left = c.args.left.now in
    let right = c.args.right.now in
    if_there c.constant-then-is_column-2.result (λ (v : Bor Value). ComesTo left (λ row. v.now)) (λ (v : Bor Value). AreEqualAs left right (key_is c.args.key v.now))
    (λ v constant. key_right left right c.args.key v.now (c.is_column-2.ensures c.if-is_column-2.true) constant) c.constant-then-is_column-2.ensures
