use Rattle.std.proofs.Common.{◌+◌, ◌≤◌, length, subst, arith}
use Rattle.pg_messages.specs.declared.server.ServerMessage.{ServerMessage}
use Rattle.pg_messages.specs.Server.{body_of}
use Rattle.pg_messages.proofs.Lengths.{counted_fit}
use Rattle.pg_messages.proofs.server_writing.put_body.Goals as goal

pub put_counted-requires-in-DataRow-clause-fit : goal.put_counted-requires-in-DataRow-clause-fit
put_counted-requires-in-DataRow-clause-fit c =
    let h = subst (λ (m : ServerMessage). length (body_of m) + 4 ≤ 1048576) c.in-DataRow.is c.requires.2 in
    rw c.as_slice-in-DataRow.ensures (counted_fit c.in-DataRow.values (omega arith))
