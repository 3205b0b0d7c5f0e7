-- What the rules say of the message at the front of some bytes, as a function of the bytes.
use Rattle.std.specs.Prelude.{ℕ, ◌+◌, ◌-◌, List, [], ◌∷◌, length, take, drop, Option, Some, None, Bool, nat_lt, if◌then◌else◌}
use Rattle.std.specs.Int.{w32, from_be_bytes}
use Rattle.pg_messages.specs.declared.read.Read.{Read}
use Rattle.pg_messages.specs.declared.read.Read.TheVariants.{Whole, More, Bad, TooLong}
use Rattle.pg_messages.specs.declared.client.ClientMessage.{ClientMessage}
use Rattle.pg_messages.specs.declared.server.ServerMessage.{ServerMessage}
use Rattle.pg_messages.specs.declared.start.StartMessage.{StartMessage}
use Rattle.pg_messages.specs.declared.frame.Layout.{Layout}
use Rattle.pg_messages.specs.Frame.{message_layout, start_layout}
use Rattle.pg_messages.specs.Login.{is_login_type, login_in}
use Rattle.pg_messages.specs.Bodies.{is_client_type, client_in, is_server_type, server_in, start_in}

-- with the length n read, and the bytes behind it: the body
abbrev pub sized : Layout → ℕ → List ℕ → Read (List ℕ)
sized l n bytes =
    if nat_lt n l.least then Bad l.place
    else if nat_lt l.most n then TooLong n
    else if nat_lt (length bytes) (n - 4) then More
    else Whole (take (n - 4) bytes) (l.place + n)

-- with the type read, if there is one: the body
unfoldable pub frame_at : Layout → List ℕ → Read (List ℕ)
frame_at l bytes = if nat_lt (length bytes) 4 then More else sized l (from_be_bytes w32 (take 4 bytes)) (drop 4 bytes)

-- a body and what it was read as
abbrev pub judged : {A : Type 0} → Layout → ℕ → Option A → Read A
judged l n None = Bad (l.place + 4)
judged l n (Some message) = Whole message n

abbrev pub opened : {A : Type 0} → Layout → (List ℕ → Option A) → Read (List ℕ) → Read A
opened l body_in (Whole body n) = judged l n (body_in body)
opened l body_in More = More
opened l body_in (Bad place) = Bad place
opened l body_in (TooLong n) = TooLong n

abbrev pub typed : {A : Type 0} → (ℕ → Bool) → (ℕ → List ℕ → Option A) → List ℕ → Read A
typed is_type body_in [] = More
typed is_type body_in (tag ∷ bytes) = if is_type tag then opened message_layout (body_in tag) (frame_at message_layout bytes) else Bad 0

unfoldable pub client_front : List ℕ → Read ClientMessage
client_front bytes = typed is_client_type client_in bytes

unfoldable pub server_front : List ℕ → Read ServerMessage
server_front bytes = typed is_server_type server_in bytes

unfoldable pub login_front : List ℕ → Read (List ℕ)
login_front bytes = typed is_login_type login_in bytes

unfoldable pub start_front : List ℕ → Read StartMessage
start_front bytes = opened start_layout start_in (frame_at start_layout bytes)
