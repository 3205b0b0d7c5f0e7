-- What a client is told that is not let in.
use Rattle.std.specs.Prelude.{ℕ, List, [], ◌∷◌, codes}
use Rattle.pg_messages.specs.declared.server.Part.{Part}
use Rattle.pg_messages.specs.declared.server.ServerMessage.{ServerMessage}
use Rattle.pg_messages.specs.declared.server.ServerMessage.TheVariants.{Error}
use Rattle.login.specs.declared.refusal.Refusal.{Refusal}
use Rattle.login.specs.declared.refusal.Refusal.TheVariants.{Password, Malformed, TooLong, MinorVersion, Encoding}

abbrev pub code_of : Refusal → List ℕ
code_of Password = codes "28P01"
code_of Malformed = codes "08P01"
code_of TooLong = codes "54000"
code_of MinorVersion = codes "0A000"
code_of Encoding = codes "22023"

abbrev pub text_of : Refusal → List ℕ
text_of Password = codes "password authentication failed"
text_of Malformed = codes "protocol violation"
text_of TooLong = codes "a limit was passed"
text_of MinorVersion = codes "not in the profile: protocol minor version"
text_of Encoding = codes "client encoding is not UTF8"

-- a list of one part
abbrev pub part_of : ℕ → List ℕ → List Part
part_of tag text = record { tag = tag; text = text } ∷ []

-- S, V, C and M
abbrev pub refusal_of : Refusal → ServerMessage
refusal_of refusal = Error (record { tag = 83; text = codes "FATAL" } ∷ record { tag = 86; text = codes "FATAL" }
    ∷ record { tag = 67; text = code_of refusal } ∷ record { tag = 77; text = text_of refusal } ∷ [])
