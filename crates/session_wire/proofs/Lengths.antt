-- A message takes a byte at least.
use Rattle.std.proofs.Common.{◌≡◌, ℕ, zero, suc, ◌<◌, ◌≤◌, List, length, take, arith}
use Rattle.pg_messages.specs.declared.client.ClientMessage.{ClientMessage}
use Rattle.pg_messages.specs.declared.start.StartMessage.{StartMessage}
use Rattle.pg_messages.specs.Frame.{BeginsWith, framed}
use Rattle.pg_messages.specs.Client.{IsClientForm, tag_of}
use Rattle.pg_messages.specs.Start.{IsStartForm, spelling}
use Rattle.session_wire.specs.declared.wire.Stage.{Stage}
use Rattle.session_wire.specs.declared.wire.Stage.TheVariants.{Starting, Open, Leaving, Closed}
use Rattle.session_wire.specs.Waiting.{open_one}

pub client_len : (m : ClientMessage) (n : ℕ) (bytes : List ℕ) → BeginsWith IsClientForm m n bytes → (0 < n) × (n ≤ length bytes)
client_len m zero bytes h = let e : take zero bytes ≡ framed (tag_of m) h.1.2.0 = h.1.2.3 in absurd (cc)
client_len m (suc n) bytes h = (omega arith, h.0)

pub start_len : (m : StartMessage) (n : ℕ) (bytes : List ℕ) → BeginsWith IsStartForm m n bytes → (0 < n) × (n ≤ length bytes)
start_len m zero bytes h = let e : take zero bytes ≡ spelling m = h.1.3 in absurd (cc)
start_len m (suc n) bytes h = (omega arith, h.0)

pub one_at_most : (stage : Stage) → open_one stage ≤ 1
one_at_most (Starting ssl gss) = omega arith
one_at_most Open = omega arith
one_at_most (Leaving refused) = omega arith
one_at_most (Closed refused) = omega arith
