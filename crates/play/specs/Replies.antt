-- What the server sends: when a session starts, and for a text.
use Rattle.std.specs.Prelude.{◌≡◌, ℕ, ℤ, pos, negsuc, List, [], ◌∷◌, ◌++◌, map, length, Option, codes}
use Rattle.std.specs.List.{flat_map, AllZip}
use Rattle.std.specs.Fmt.{decimal}
use Rattle.pg_values.specs.declared.col_type.ColType.{ColType}
use Rattle.pg_values.specs.declared.col_type.ColType.TheVariants as kind
use Rattle.pg_values.specs.Text.{IsTextOf}
use Rattle.pg_values.specs.Kinds.{oid_number}
use Rattle.schema.specs.declared.catalogue.TableDef.{TableDef}
use Rattle.catalogue.specs.declared.checked.Checked.{Checked}
use Rattle.catalogue.specs.declared.checked.CheckedBody.{CheckedBody}
use Rattle.catalogue.specs.declared.checked.CheckedBody.TheVariants as body
use Rattle.catalogue.specs.declared.checked.ColumnDesc.{ColumnDesc}
use Rattle.sql_eval.specs.declared.row.Row.{Row}
use Rattle.backend_trait.specs.declared.answer.Answer.{Answer}
use Rattle.backend_trait.specs.declared.answer.Answer.TheVariants as answers
use Rattle.backend_trait.specs.Rows.{Rows}
use Rattle.backend_trait.specs.Effect.{Given, Fails, Gives}
use Rattle.backend_trait.specs.Alone as alone
use Rattle.pg_messages.specs.declared.server.Field.{Field}
use Rattle.pg_messages.specs.declared.server.Part.{Part}
use Rattle.pg_messages.specs.declared.server.ServerMessage.{ServerMessage}
use Rattle.pg_messages.specs.declared.server.ServerMessage.TheVariants.{AuthOk, ParameterStatus, BackendKey, Ready, RowDescription, DataRow, Complete, Empty, Error}
use Rattle.pg_messages.specs.Server.{spelling}
use Rattle.pg_messages.specs.Fronts.{server_front}
use Rattle.pg_messages.specs.declared.read.Read.TheVariants.{Whole}
use Rattle.play.specs.Asked.{Asked, nothing, refused, runs}
use Rattle.play.specs.Codes.{text_of_code}

-- the settings that are told when a session starts
abbrev pub settings : List ServerMessage
settings =
    ParameterStatus (codes "client_encoding") (codes "UTF8")
    ∷ ParameterStatus (codes "DateStyle") (codes "ISO, MDY")
    ∷ ParameterStatus (codes "integer_datetimes") (codes "on")
    ∷ ParameterStatus (codes "server_encoding") (codes "UTF8")
    ∷ ParameterStatus (codes "server_version") (codes "14.0")
    ∷ ParameterStatus (codes "standard_conforming_strings") (codes "on")
    ∷ ParameterStatus (codes "TimeZone") (codes "UTC") ∷ []

-- the messages that let a session in: settings, its key, and that it is idle
unfoldable pub start_up : ℕ → List ServerMessage
start_up session = AuthOk ∷ (settings ++ (BackendKey (pos session) (pos 0) ∷ Ready 73 ∷ []))

-- the size of a type's values in bytes; -1 where they have no one size
abbrev pub size_of : ColType → ℤ
size_of kind.Bool = pos 1
size_of kind.Int4 = pos 4
size_of kind.Int8 = pos 8
size_of kind.Text = negsuc 0
size_of kind.Moment = pos 8

-- a column of a result in text form: its name, the OID of its type, the size of its type
abbrev pub field_of : ColumnDesc → Field
field_of column = record { name = column.name; table = 0; column = pos 0; kind = oid_number column.kind; size = size_of column.kind; modifier = negsuc 0; format = 0 }

abbrev pub fields_of : List ColumnDesc → List Field
fields_of columns = map field_of columns

-- a row in text form: the one text of each value, none for Null
abbrev pub IsRowMessage : Row → ServerMessage → Type 0
IsRowMessage row message = (texts : List (Option (List ℕ))) × AllZip IsTextOf row.cells texts × (message ≡ DataRow texts)

abbrev pub part : ℕ → List ℕ → Part
part tag text = record { tag = tag; text = text }

-- S and V: the severity; C: the code; M: the text
abbrev pub error_parts : List ℕ → List ℕ → List Part
error_parts code text = part 83 (codes "ERROR") ∷ part 86 (codes "ERROR") ∷ part 67 code ∷ part 77 text ∷ []

unfoldable pub error_message : List ℕ → List ℕ → ServerMessage
error_message code text = Error (error_parts code text)

-- the tag of a statement that is done, with its count
abbrev pub tag_of : CheckedBody → ℕ → List ℕ
tag_of (body.Read read) count = codes "SELECT " ++ decimal count
tag_of (body.Insert insert) count = codes "INSERT 0 " ++ decimal count
tag_of (body.Change change) count = codes "UPDATE " ++ decimal count
tag_of (body.Remove remove) count = codes "DELETE " ++ decimal count

-- the rows, in text form, behind the description of their columns
pub record AreRows (checked : Checked) (rows : List Row) (messages : List ServerMessage) : Type 0 where
  pub sent : List ServerMessage
  pub each : AllZip IsRowMessage rows sent
  pub are : messages ≡ RowDescription (fields_of checked.columns) ∷ (sent ++ Complete (tag_of checked.body (length rows)) ∷ [])

-- the messages for an answer to a statement
abbrev pub AreAnswers : Checked → Answer → List ServerMessage → Type 0
AreAnswers checked answers.Began messages = messages ≡ []
AreAnswers checked (answers.Rows rows) messages = AreRows checked rows messages
AreAnswers checked (answers.Count n) messages = messages ≡ Complete (tag_of checked.body n) ∷ []
AreAnswers checked answers.Locked messages = messages ≡ []
AreAnswers checked answers.Done messages = messages ≡ []
AreAnswers checked (answers.Serial n) messages = messages ≡ []
AreAnswers checked (answers.Refused code) messages = messages ≡ error_message code.bytes (text_of_code code.bytes) ∷ []

-- what a statement that runs alone gives on the committed rows, and the rows that it leaves
unfoldable pub given_on : List TableDef → Rows → Checked → Given
given_on tables rows statement = alone.given_on tables rows statement

unfoldable pub rows_after : List TableDef → Rows → Checked → Rows
rows_after tables rows statement = alone.rows_after tables rows statement

-- the messages for what a statement gives
abbrev pub AreGiven : Checked → Given → List ServerMessage → Type 0
AreGiven checked (Fails code) messages = messages ≡ error_message code (text_of_code code) ∷ []
AreGiven checked (Gives answer changes places) messages = AreAnswers checked answer messages

-- all that the server sends for a text, by what it asks for, on these rows
abbrev pub AreReplies : List TableDef → Rows → Asked → List ServerMessage → Type 0
AreReplies tables rows nothing messages = messages ≡ Empty ∷ Ready 73 ∷ []
AreReplies tables rows (refused code text) messages = messages ≡ error_message code text ∷ Ready 73 ∷ []
AreReplies tables rows (runs checked) messages =
    (front : List ServerMessage) × AreGiven checked (given_on tables rows checked) front × (messages ≡ front ++ Ready 73 ∷ [])

-- the rows afterwards
unfoldable pub rows_left_by : List TableDef → Rows → Asked → Rows
rows_left_by tables rows nothing = rows
rows_left_by tables rows (refused code text) = rows
rows_left_by tables rows (runs checked) = rows_after tables rows checked

-- bytes that messages spell, one after another
abbrev pub spelled_all : List ServerMessage → List ℕ
spelled_all messages = flat_map spelling messages

-- read from the front of bytes that begin with its spelling, it is that message
abbrev pub IsReadAgain : ServerMessage → Type 0
IsReadAgain message = (rest : List ℕ) → server_front (spelling message ++ rest) ≡ Whole message (length (spelling message))

abbrev pub AreReadAgain : List ServerMessage → Type 0
AreReadAgain [] = Unit {0}
AreReadAgain (message ∷ messages) = IsReadAgain message × AreReadAgain messages

-- the messages were put behind what was there
pub record Sent (old new : List ℕ) (messages : List ServerMessage) : Type 0 where
  pub bytes : new ≡ old ++ spelled_all messages
  pub again : AreReadAgain messages
