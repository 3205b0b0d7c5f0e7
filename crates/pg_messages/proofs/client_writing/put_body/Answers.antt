use Rattle.std.proofs.Common.{◌+◌, ◌≤◌, length, subst, arith}
use Rattle.pg_messages.specs.declared.client.ClientMessage.{ClientMessage}
use Rattle.pg_messages.specs.Client.{body_of}
use Rattle.pg_messages.proofs.Lengths.{bound_fit}
use Rattle.pg_messages.proofs.client_writing.put_body.Goals as goal

pub put_bind-requires-clause-values_fit : goal.put_bind-requires-clause-values_fit
put_bind-requires-clause-values_fit c =
    let h = subst (λ (m : ClientMessage). length (body_of m) + 4 ≤ 1048576) c.in-Bind.is c.requires.1 in
    rw c.as_slice-in-Bind-4.ensures (bound_fit c.in-Bind.portal c.in-Bind.name c.in-Bind.formats c.in-Bind.values c.in-Bind.results (omega arith))
