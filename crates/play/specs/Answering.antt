-- What a session answers to a text, and what a message has room for.
use Rattle.std.specs.Prelude.{◌≡◌, ◌≤◌, ℕ, ℤ, List, length, All, Option, None, FitsSigned}
use Rattle.std.specs.Int.{w32, w64}
use Rattle.pg_values.specs.Range.{IsInRange, HasNoZero}
use Rattle.pg_values.specs.Text.{IsTextOf}
use Rattle.pg_values.specs.declared.value.Value.{Value}
use Rattle.pg_values.specs.declared.value.Value.TheVariants.{Int4, Int8}
use Rattle.schema.specs.declared.catalogue.TableDef.{TableDef}
use Rattle.catalogue.specs.declared.checked.ColumnDesc.{ColumnDesc}
use Rattle.classifier.specs.Classes.{lock_of}
use Rattle.sql_eval.specs.declared.row.Row.{Row}
use Rattle.sql_eval.specs.Reads.{cell_size}
use Rattle.backend_trait.specs.Rows.{Rows}
use Rattle.backend_trait.specs.Runnable.{IsRunnable}
use Rattle.pg_messages.specs.Fields.{value}
use Rattle.pg_messages.specs.declared.server.ServerMessage.{ServerMessage}
use Rattle.play.specs.Asked.{Asked, nothing, refused, runs, IsAsked}
use Rattle.play.specs.Replies.{AreReplies, rows_left_by, Sent}

-- the text asks for something, and the replies to it were put behind what was to be sent; it leaves these rows
pub record IsAnswered (tables : List TableDef) (rows : Rows) (moment : ℤ) (text old new : List ℕ) (left : Rows) : Type 0 where
  pub asked : Asked
  pub is : IsAsked tables moment text asked
  pub messages : List ServerMessage
  pub replies : AreReplies tables rows asked messages
  pub sent : Sent old new messages
  pub rows_left : left ≡ rows_left_by tables rows asked

-- a text that a message has room for
abbrev pub IsShort : List ℕ → Type 0
IsShort text = (length text ≤ 1000) × HasNoZero text

abbrev pub IsRowInRange : Row → Type 0
IsRowInRange row = All IsInRange row.cells

-- a whole number is in the range of its type
abbrev pub IsHeld : Value → Type 0
IsHeld (Int4 number) = FitsSigned w32 number
IsHeld (Int8 number) = FitsSigned w64 number
IsHeld _ = Unit {0}

-- the text of a value, which takes no more room in a message than the value counts in a row
abbrev pub IsCellText : Value → Option (List ℕ) → Type 0
IsCellText v text = IsTextOf v text × (length (value text) ≤ cell_size v)

-- a name that a message has room for
abbrev pub IsNamed : ColumnDesc → Type 0
IsNamed column = (length column.name ≤ 63) × HasNoZero column.name

-- the columns of a result: no more than a SELECT may have, each with such a name
abbrev pub AreNamed : List ColumnDesc → Type 0
AreNamed columns = (length columns ≤ 1664) × All IsNamed columns

-- a refusal has room in a message; a statement can be run and takes no lock first, and what is told of it has room
abbrev pub IsReady : List TableDef → Asked → Type 0
IsReady tables nothing = Unit {0}
IsReady tables (refused code text) = IsShort text
IsReady tables (runs checked) = IsRunnable tables checked × (lock_of checked.body ≡ None) × AreNamed checked.columns
