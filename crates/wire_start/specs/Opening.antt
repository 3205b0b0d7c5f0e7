-- What a client is told that is let in.
use Rattle.std.specs.Prelude.{ℕ, pos, List, [], ◌∷◌, ◌++◌, codes}
use Rattle.std.specs.List.{flat_map}
use Rattle.pg_messages.specs.declared.server.ServerMessage.{ServerMessage}
use Rattle.pg_messages.specs.declared.server.ServerMessage.TheVariants.{AuthOk, ParameterStatus, BackendKey, Ready}
use Rattle.pg_messages.specs.Server.{spelling}

-- the settings that clients look at
abbrev pub settings : List ServerMessage
settings =
    ParameterStatus (codes "client_encoding") (codes "UTF8")
    ∷ ParameterStatus (codes "DateStyle") (codes "ISO, MDY")
    ∷ ParameterStatus (codes "integer_datetimes") (codes "on")
    ∷ ParameterStatus (codes "server_encoding") (codes "UTF8")
    ∷ ParameterStatus (codes "server_version") (codes "14.0")
    ∷ ParameterStatus (codes "standard_conforming_strings") (codes "on")
    ∷ ParameterStatus (codes "TimeZone") (codes "UTC") ∷ []

-- no password is asked for; the settings; the key, which is the session's number; the session waits
abbrev pub opening : ℕ → List ℕ
opening session = spelling AuthOk ++ (flat_map spelling settings ++ (spelling (BackendKey (pos session) (pos 0)) ++ spelling (Ready 73)))
