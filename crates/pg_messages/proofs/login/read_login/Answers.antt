use Rattle.std.proofs.Common.{arith}
use Rattle.std.proofs.lemmas.List.Elements.{All-from_get_or}
use Rattle.pg_messages.proofs.FieldLemmas.{is_byte}
use Rattle.pg_messages.proofs.LoginLemmas.{login_whole, login_more, login_bad, login_long}
use Rattle.pg_messages.proofs.login.read_login.Goals as goal

pub returns-clause-whole : goal.returns-clause-whole
returns-clause-whole c = login_whole c.args.bytes.now c.login_front_of.result (All-from_get_or is_byte c.args.bytes.now 0 (λ i within. omega (arith, c.type_inv.bytes i))) c.login_front_of.ensures

pub returns-clause-more : goal.returns-clause-more
returns-clause-more c = login_more c.args.bytes.now c.login_front_of.result c.login_front_of.ensures

pub returns-clause-bad : goal.returns-clause-bad
returns-clause-bad c = login_bad c.args.bytes.now c.login_front_of.result (All-from_get_or is_byte c.args.bytes.now 0 (λ i within. omega (arith, c.type_inv.bytes i))) c.login_front_of.ensures

pub returns-clause-too_long : goal.returns-clause-too_long
returns-clause-too_long c = login_long c.args.bytes.now c.login_front_of.result c.login_front_of.ensures
