-- The first message of the session, and short strings.
use Rattle.std.specs.Prelude.{◌≡◌, ℕ, Bool, true, false, ◌&&◌, ◌==◌, Option, Some, None, nat_lt, nat_le, List, [], ◌∷◌, length, codes}
use Rattle.pg_messages.specs.declared.start.StartMessage.{StartMessage}
use Rattle.pg_messages.specs.declared.start.StartMessage.TheVariants.{Start, Ssl, Gss, Cancel}
use Rattle.pg_messages.specs.declared.client.ClientMessage.{ClientMessage}
use Rattle.pg_messages.specs.declared.read.Read.{Read}
use Rattle.pg_messages.specs.declared.read.Read.TheVariants.{Whole, More, Bad, TooLong}
use Rattle.pg_messages.specs.declared.client.ClientMessage.TheVariants.{Query, Parse, Bind, Describe, Execute, Close, Flush, Sync, Terminate, Other}
use Rattle.pg_messages.specs.Start.{IsStartForm}
use Rattle.pg_messages.specs.Fronts.{client_front}

-- version 3.0, user `pool`, database `pool`
abbrev pub start_message : StartMessage
start_message = Start 3 0 (record { name = codes "user"; value = codes "pool" } ∷ record { name = codes "database"; value = codes "pool" } ∷ [])

-- the bytes are that message
abbrev pub HoldsStart : List ℕ → Type 0
HoldsStart bytes = IsStartForm start_message bytes

-- the bytes are read as a message of the client
abbrev pub HoldsClient : List ℕ → ClientMessage → Type 0
HoldsClient bytes message = client_front bytes ≡ Whole message (length bytes)

-- the text of a Query
abbrev pub query_of : ClientMessage → Option (List ℕ)
query_of (Query text) = Some text
query_of (Parse name text kinds) = None
query_of (Bind portal name formats values results) = None
query_of (Describe portal name) = None
query_of (Execute portal limit) = None
query_of (Close portal name) = None
query_of Flush = None
query_of Sync = None
query_of Terminate = None
query_of (Other tag) = None

abbrev pub query_in : Read ClientMessage → Option (List ℕ)
query_in (Whole message n) = query_of message
query_in More = None
query_in (Bad place) = None
query_in (TooLong n) = None

-- a start message of version 3.0
abbrev pub is_three : StartMessage → Bool
is_three (Start major minor options) = minor == 0
is_three Ssl = false
is_three Gss = false
is_three (Cancel process secret) = false

abbrev pub is_start : Read StartMessage → Bool
is_start (Whole message n) = is_three message
is_start More = false
is_start (Bad place) = false
is_start (TooLong n) = false

-- no zero byte
abbrev pub is_string : List ℕ → Bool
is_string [] = true
is_string (byte ∷ bytes) = nat_lt 0 byte && is_string bytes

-- a short string
abbrev pub is_label : List ℕ → Bool
is_label text = nat_le (length text) 100 && is_string text
