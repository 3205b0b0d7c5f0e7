-- What a server says until it is ready: it lets the client in, then tells settings and a key, then is ready. An error turns the client
-- away.
use Rattle.std.specs.Prelude.{◌≡◌, length, Some}
use Rattle.pool_base.specs.Codes.{IsCode}
use Rattle.pg_messages.specs.declared.server.ServerMessage.{ServerMessage}
use Rattle.pg_messages.specs.declared.server.ServerMessage.TheVariants as message
use Rattle.postgres_link.specs.declared.start.Arrival.{Arrival}
use Rattle.postgres_link.specs.declared.start.Arrival.TheVariants as arrival
use Rattle.postgres_link.specs.declared.start.Welcome.{Welcome}
use Rattle.postgres_link.specs.declared.start.Welcome.TheVariants as welcome
use Rattle.postgres_link.specs.declared.hearing.Excess.{Excess}
use Rattle.postgres_link.specs.Asked.{code_part}

abbrev pub Goes : Arrival → ServerMessage → Arrival → Type 0
Goes arrival.Outside message.AuthOk new = new ≡ arrival.Inside
Goes arrival.Inside (message.ParameterStatus name setting) new = new ≡ arrival.Inside
Goes arrival.Inside (message.Notice parts) new = new ≡ arrival.Inside
Goes arrival.Inside (message.BackendKey process secret) new = new ≡ arrival.Inside
Goes a m new = ⊥

abbrev pub Ends : Arrival → ServerMessage → Welcome → Type 0
Ends arrival.Inside (message.Ready status) welcome.Ready = status ≡ 73
Ends a (message.Error parts) (welcome.Refused code) = (code_part parts ≡ Some code.bytes) × IsCode code.bytes × (length code.bytes ≡ 5)
Ends a m w = ⊥

-- nothing that a server says until it is ready may be too large
abbrev pub Exceeds : Arrival → Excess → Arrival → Type 0
Exceeds old what new = ⊥
