-- What a session at a server begins with.
use Rattle.std.specs.Prelude.{◌≡◌, false, None}
use Rattle.tcp_link.specs.Links.{pending_of}
use Rattle.tcp_link.specs.declared.connection.Connected.{Connected}
use Rattle.tcp_link.specs.declared.connection.Connected.TheVariants as connected

-- a link that is ready has nothing pending, and is not lost
abbrev pub IsConnected : Connected → Type 0
IsConnected (connected.Ready link) = (pending_of link.state ≡ None) × (link.lost ≡ false)
IsConnected (connected.TurnedAway link code) = (pending_of link.state ≡ None) × (link.lost ≡ false)
IsConnected (connected.Unshown link unshown) = (pending_of link.state ≡ None) × (link.lost ≡ false)
IsConnected connected.Forged = Unit {0}
IsConnected connected.Failed = Unit {0}
IsConnected (connected.Short want) = Unit {0}
IsConnected connected.NoMemory = Unit {0}
