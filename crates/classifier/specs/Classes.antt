-- What a statement needs of the backends: its class, the lock that it takes first, and the table that it writes.
use Rattle.std.specs.Prelude.{◌^◌, ◌<◌, ℕ, Bool as Truth, true, false, List, Option, Some, None, if◌then◌else◌}
use Rattle.std.specs.List.{list_any}
use Rattle.catalogue.specs.declared.checked.CheckedBody.{CheckedBody}
use Rattle.catalogue.specs.declared.checked.CheckedBody.TheVariants as body
use Rattle.catalogue.specs.declared.checked.TypedCell.{TypedCell}
use Rattle.catalogue.specs.declared.checked.TypedCell.TheVariants as cell
use Rattle.classifier.specs.declared.class.Class.{Class}
use Rattle.classifier.specs.declared.class.Class.TheVariants as class

abbrev pub is_serial : TypedCell → Truth
is_serial cell.Serial = true
is_serial cell.Now = false
is_serial (cell.Given e) = false

-- whether a cell of the rows takes the next number of the table
abbrev pub has_serial : List (List TypedCell) → Truth
has_serial = list_any (list_any is_serial)

-- a SELECT by its lock, an INSERT by whether it takes a number; UPDATE and DELETE are writes
abbrev pub class_of : CheckedBody → Class
class_of (body.Read read) = if read.for_update then class.LockingRead else class.Read
class_of (body.Insert insert) = if has_serial insert.rows then class.SerialInsert else class.Write
class_of (body.Change change) = class.Write
class_of (body.Remove remove) = class.Write

-- the table that is written, if the statement is no SELECT
abbrev pub table_written : CheckedBody → Option ℕ
table_written (body.Read read) = None
table_written (body.Insert insert) = Some insert.table
table_written (body.Change change) = Some change.table
table_written (body.Remove remove) = Some remove.table

abbrev pub locked : Class → Option ℕ → Option ℕ
locked class.Read table = None
locked class.LockingRead table = None
locked class.Write table = None
locked class.SerialInsert table = table

-- the table whose lock is taken first: that of an INSERT that takes a number
abbrev pub lock_of : CheckedBody → Option ℕ
lock_of statement = locked (class_of statement) (table_written statement)

abbrev pub bit_of : Option ℕ → ℕ
bit_of None = 0
bit_of (Some table) = 2 ^ table

-- one bit, that of the table that is written
abbrev pub tables_mask : CheckedBody → ℕ
tables_mask statement = bit_of (table_written statement)

abbrev pub IsBelow64 : Option ℕ → Type 0
IsBelow64 None = Unit {0}
IsBelow64 (Some table) = table < 64

-- the table that is written is one of the 64 that a catalogue may have
abbrev pub WritesOneOf64 : CheckedBody → Type 0
WritesOneOf64 statement = IsBelow64 (table_written statement)
