-- What a wire answers.
use Rattle.std.specs.Prelude.{ℕ, ◌≤◌}
use Rattle.pool_base.specs.Outside.{Rose}
use Rattle.tcp_link.specs.declared.wire.Sent.{Sent}
use Rattle.tcp_link.specs.declared.wire.Sent.TheVariants as sent
use Rattle.tcp_link.specs.declared.outbox.Emptied.{Emptied}
use Rattle.tcp_link.specs.declared.outbox.Emptied.TheVariants as emptied
use Rattle.tcp_link.specs.declared.wire.Received.{Received}
use Rattle.tcp_link.specs.declared.wire.Received.TheVariants as received

-- some of that many bytes were taken, none yet, or none and the count of faults rose
abbrev pub WentTo : Sent → ℕ → ℕ → ℕ → Type 0
WentTo (sent.Taken n) size before after = (1 ≤ n) × (n ≤ size)
WentTo sent.NotYet size before after = Unit {0}
WentTo sent.Failed size before after = Rose before after

-- some bytes came into a piece of that size, none yet, or none will and the count of faults rose
abbrev pub CameTo : Received → ℕ → ℕ → ℕ → Type 0
CameTo (received.Bytes n) size before after = (1 ≤ n) × (n ≤ size)
CameTo received.NotYet size before after = Unit {0}
CameTo received.Failed size before after = Rose before after

-- sending has failed only where the count of faults rose
abbrev pub IsEmptied : Emptied → ℕ → ℕ → Type 0
IsEmptied emptied.All before after = Unit {0}
IsEmptied emptied.NotYet before after = Unit {0}
IsEmptied emptied.Failed before after = Rose before after
