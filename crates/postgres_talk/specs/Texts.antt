-- The text that a request is sent as, and the message that carries it.
use Rattle.std.specs.Prelude.{◌≡◌, ℕ, ℤ, List, ◌++◌, Option, Some, None, codes, slice_get}
use Rattle.std.specs.Fmt.{signed_decimal}
use Rattle.pg_messages.specs.declared.client.ClientMessage.TheVariants.{Query}
use Rattle.pg_messages.specs.Client.{spelling}
use Rattle.schema.specs.declared.catalogue.ColumnDef.{ColumnDef}
use Rattle.schema.specs.declared.catalogue.TableDef.{TableDef}
use Rattle.sql_print.specs.Spelling.{spelled, name, string}
use Rattle.sql_print.specs.Printed.{statement_text}
use Rattle.checked_print.specs.Statements.{spelled_statement}
use Rattle.backend_trait.specs.declared.request.Request.{Request}
use Rattle.backend_trait.specs.declared.request.Request.TheVariants as request
use Rattle.postgres_talk.specs.declared.spelled.Ending.{Ending}
use Rattle.postgres_talk.specs.declared.spelled.Ending.TheVariants as ending

abbrev pub lock_text : List ℕ → List ℕ
lock_text table = (codes "LOCK TABLE " ++ spelled (name table)) ++ codes " IN SHARE ROW EXCLUSIVE MODE"

abbrev pub lock_at : Option TableDef → Option (List ℕ)
lock_at None = None
lock_at (Some table) = Some (lock_text table.name)

-- the sequence of a serial column: the table, the column and `seq`
abbrev pub sequence_name : List ℕ → List ℕ → List ℕ
sequence_name table column = ((table ++ codes "_") ++ column) ++ codes "_seq"

abbrev pub sequence_by : List ℕ → Option ColumnDef → Option (List ℕ)
sequence_by table None = None
sequence_by table (Some column) = Some (sequence_name table column.name)

abbrev pub sequence_in : List ℕ → List ColumnDef → Option ℕ → Option (List ℕ)
sequence_in table columns None = None
sequence_in table columns (Some at) = sequence_by table (slice_get columns at)

abbrev pub sequence_of : Option TableDef → Option (List ℕ)
sequence_of None = None
sequence_of (Some table) = sequence_in table.name table.columns table.serial

abbrev pub read_text : List ℕ → List ℕ
read_text sequence = codes "SELECT last_value, is_called FROM " ++ spelled (name sequence)

abbrev pub set_text : List ℕ → ℤ → List ℕ
set_text sequence next = (((codes "SELECT setval(" ++ spelled (string (spelled (name sequence)))) ++ codes ", ") ++ signed_decimal next) ++ codes ", false)"

abbrev pub read_by : Option (List ℕ) → Option (List ℕ)
read_by None = None
read_by (Some sequence) = Some (read_text sequence)

abbrev pub set_by : Option (List ℕ) → ℤ → Option (List ℕ)
set_by None next = None
set_by (Some sequence) next = Some (set_text sequence next)

-- the block is begun, and its second statement takes the snapshot
abbrev pub snapshot_text : List ℕ
snapshot_text = codes "BEGIN ISOLATION LEVEL REPEATABLE READ; SELECT 1"

abbrev pub end_text : Ending → List ℕ
end_text ending.Commit = codes "COMMIT"
end_text ending.Rollback = codes "ROLLBACK"

-- the block ends, and the next one is of the same kind; the second statement takes its snapshot
abbrev pub next_text : Ending → List ℕ
next_text ending.Commit = codes "COMMIT AND CHAIN; SELECT 1"
next_text ending.Rollback = codes "ROLLBACK AND CHAIN; SELECT 1"

-- the text; None: a table or a serial column is not there
abbrev pub text_of : List TableDef → Request → Option (List ℕ)
text_of tables request.TakeSnapshot = Some snapshot_text
text_of tables (request.Run checked) = Some (statement_text (spelled_statement tables checked))
text_of tables (request.Lock table) = lock_at (slice_get tables table)
text_of tables request.Commit = Some (codes "COMMIT")
text_of tables request.Rollback = Some (codes "ROLLBACK")
text_of tables (request.ReadSerial table) = read_by (sequence_of (slice_get tables table))
text_of tables (request.SetSerial table next) = set_by (sequence_of (slice_get tables table)) next

abbrev pub query : List ℕ → List ℕ
query text = spelling (Query text)

-- the bytes are the message of the text
abbrev pub Sends : Option (List ℕ) → List ℕ → Type 0
Sends None bytes = ⊥
Sends (Some text) bytes = bytes ≡ query text
