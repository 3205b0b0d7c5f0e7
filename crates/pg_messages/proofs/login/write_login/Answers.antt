use Rattle.std.proofs.Common.{arith}
use Rattle.std.proofs.lemmas.List.Elements.{All-from_get_or}
use Rattle.pg_messages.proofs.FieldLemmas.{is_byte}
use Rattle.pg_messages.proofs.LoginLemmas.{login_written}
use Rattle.pg_messages.proofs.login.write_login.Goals as goal

pub returns-else-is_err-clause-again : goal.returns-else-is_err-clause-again
returns-else-is_err-clause-again c =
    login_written c.args.body.now c.put_login-written.result (All-from_get_or is_byte c.args.body.now 0 (λ i within. omega (arith, c.type_inv.body i))) c.requires
