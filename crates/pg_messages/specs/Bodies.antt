-- Reading bodies: the message that a type and a body spell, if they spell one.
use Rattle.std.specs.Prelude.{ℕ, List, [], ◌∷◌, Option, Some, None, Bool, ◌==◌, ◌||◌, if◌then◌else◌, bytes_eq}
use Rattle.std.specs.Int.{w16, w32}
use Rattle.pg_messages.specs.declared.client.ClientMessage.{ClientMessage}
use Rattle.pg_messages.specs.declared.client.ClientMessage.TheVariants as client
use Rattle.pg_messages.specs.declared.server.ServerMessage.{ServerMessage}
use Rattle.pg_messages.specs.declared.server.ServerMessage.TheVariants as server
use Rattle.pg_messages.specs.declared.start.StartMessage.{StartMessage}
use Rattle.pg_messages.specs.declared.start.StartMessage.TheVariants as start
use Rattle.pg_messages.specs.Server.{sasl_names}
use Rattle.pg_messages.specs.Reading.{◌>>=◌, number_at, signed_at, string_at, value_at, field_at, part_at, pair_at, target_at, counted_at, zero_ended_at, whole}

-- ---- a client's

unfoldable pub query_in : List ℕ → Option ClientMessage
query_in bytes = do
  text ← string_at bytes
  whole (client.Query text.0, text.1)

unfoldable pub parse_in : List ℕ → Option ClientMessage
parse_in bytes = do
  name ← string_at bytes
  text ← string_at name.1
  kinds ← counted_at (number_at w32) text.1
  whole (client.Parse name.0 text.0 kinds.0, kinds.1)

unfoldable pub bind_in : List ℕ → Option ClientMessage
bind_in bytes = do
  portal ← string_at bytes
  name ← string_at portal.1
  formats ← counted_at (number_at w16) name.1
  values ← counted_at value_at formats.1
  results ← counted_at (number_at w16) values.1
  whole (client.Bind portal.0 name.0 formats.0 values.0 results.0, results.1)

unfoldable pub describe_in : List ℕ → Option ClientMessage
describe_in bytes = do
  portal ← target_at bytes
  name ← string_at portal.1
  whole (client.Describe portal.0 name.0, name.1)

unfoldable pub close_in : List ℕ → Option ClientMessage
close_in bytes = do
  portal ← target_at bytes
  name ← string_at portal.1
  whole (client.Close portal.0 name.0, name.1)

unfoldable pub execute_in : List ℕ → Option ClientMessage
execute_in bytes = do
  portal ← string_at bytes
  limit ← signed_at w32 portal.1
  whole (client.Execute portal.0 limit.0, limit.1)

abbrev pub is_other_type : ℕ → Bool
is_other_type tag = (tag == 70) || ((tag == 112) || ((tag == 100) || ((tag == 99) || (tag == 102))))

abbrev pub is_client_type : ℕ → Bool
is_client_type tag = (tag == 81) || ((tag == 80) || ((tag == 66) || ((tag == 68) || ((tag == 69) || ((tag == 67) || ((tag == 72) || ((tag == 83) || ((tag == 88) || is_other_type tag))))))))

unfoldable pub client_in : ℕ → List ℕ → Option ClientMessage
client_in tag bytes =
    if tag == 81 then query_in bytes
    else if tag == 80 then parse_in bytes
    else if tag == 66 then bind_in bytes
    else if tag == 68 then describe_in bytes
    else if tag == 69 then execute_in bytes
    else if tag == 67 then close_in bytes
    else if tag == 72 then whole (client.Flush, bytes)
    else if tag == 83 then whole (client.Sync, bytes)
    else if tag == 88 then whole (client.Terminate, bytes)
    else Some (client.Other tag)

-- ---- a server's

unfoldable pub sasl_in : List ℕ → Option ServerMessage
sasl_in bytes = if bytes_eq bytes sasl_names then Some server.AuthSasl else None

unfoldable pub auth_in : List ℕ → Option ServerMessage
auth_in bytes = do
  n ← number_at w32 bytes
  if n.0 == 0 then whole (server.AuthOk, n.1)
      else if n.0 == 10 then sasl_in n.1
      else if n.0 == 11 then Some (server.AuthContinue n.1)
      else if n.0 == 12 then Some (server.AuthFinal n.1)
      else None

unfoldable pub status_in : List ℕ → Option ServerMessage
status_in bytes = do
  name ← string_at bytes
  setting ← string_at name.1
  whole (server.ParameterStatus name.0 setting.0, setting.1)

unfoldable pub key_in : List ℕ → Option ServerMessage
key_in bytes = do
  process ← signed_at w32 bytes
  secret ← signed_at w32 process.1
  whole (server.BackendKey process.0 secret.0, secret.1)

unfoldable pub ready_in : List ℕ → Option ServerMessage
ready_in [] = None
ready_in (status ∷ bytes) = if (status == 73) || ((status == 84) || (status == 69)) then whole (server.Ready status, bytes) else None

unfoldable pub columns_in : List ℕ → Option ServerMessage
columns_in bytes = do
  fields ← counted_at field_at bytes
  whole (server.RowDescription fields.0, fields.1)

unfoldable pub row_in : List ℕ → Option ServerMessage
row_in bytes = do
  values ← counted_at value_at bytes
  whole (server.DataRow values.0, values.1)

unfoldable pub complete_in : List ℕ → Option ServerMessage
complete_in bytes = do
  tag ← string_at bytes
  whole (server.Complete tag.0, tag.1)

unfoldable pub error_in : List ℕ → Option ServerMessage
error_in bytes = do
  parts ← zero_ended_at part_at bytes
  whole (server.Error parts.0, parts.1)

unfoldable pub notice_in : List ℕ → Option ServerMessage
notice_in bytes = do
  parts ← zero_ended_at part_at bytes
  whole (server.Notice parts.0, parts.1)

unfoldable pub kinds_in : List ℕ → Option ServerMessage
kinds_in bytes = do
  kinds ← counted_at (number_at w32) bytes
  whole (server.ParameterDescription kinds.0, kinds.1)

abbrev pub is_server_type : ℕ → Bool
is_server_type tag = (tag == 82) || ((tag == 83) || ((tag == 75) || ((tag == 90) || ((tag == 84) || ((tag == 68) || ((tag == 67) || ((tag == 69) || ((tag == 78) || ((tag == 116) || ((tag == 73) || ((tag == 49) || ((tag == 50) || ((tag == 51) || ((tag == 110) || (tag == 115)))))))))))))))

unfoldable pub server_in : ℕ → List ℕ → Option ServerMessage
server_in tag bytes =
    if tag == 82 then auth_in bytes
    else if tag == 83 then status_in bytes
    else if tag == 75 then key_in bytes
    else if tag == 90 then ready_in bytes
    else if tag == 84 then columns_in bytes
    else if tag == 68 then row_in bytes
    else if tag == 67 then complete_in bytes
    else if tag == 69 then error_in bytes
    else if tag == 78 then notice_in bytes
    else if tag == 116 then kinds_in bytes
    else if tag == 73 then whole (server.Empty, bytes)
    else if tag == 49 then whole (server.ParseComplete, bytes)
    else if tag == 50 then whole (server.BindComplete, bytes)
    else if tag == 51 then whole (server.CloseComplete, bytes)
    else if tag == 110 then whole (server.NoData, bytes)
    else whole (server.Suspended, bytes)

-- ---- the first message of a connection

unfoldable pub options_in : List ℕ → Option StartMessage
options_in bytes = do
  major ← number_at w16 bytes
  minor ← number_at w16 major.1
  options ← zero_ended_at pair_at minor.1
  if major.0 == 3 then whole (start.Start major.0 minor.0 options.0, options.1) else None

unfoldable pub cancel_in : List ℕ → Option StartMessage
cancel_in bytes = do
  process ← signed_at w32 bytes
  secret ← signed_at w32 process.1
  whole (start.Cancel process.0 secret.0, secret.1)

unfoldable pub start_in : List ℕ → Option StartMessage
start_in bytes = do
  n ← number_at w32 bytes
  if n.0 == 80877103 then whole (start.Ssl, n.1)
      else if n.0 == 80877104 then whole (start.Gss, n.1)
      else if n.0 == 80877102 then cancel_in n.1
      else options_in bytes
