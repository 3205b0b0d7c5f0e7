-- Which class and tables a statement has: an INSERT that draws serial numbers is a serial insert of its table, another a write; a
-- SELECT with FOR UPDATE is a locking read, another a read. A write and a serial insert change their statement's table.
use Rattle.std.specs.Prelude.{if◌then◌else◌}
use Rattle.catalogue.specs.declared.checked.Checked.{Checked}
use Rattle.catalogue.specs.declared.checked.CheckedBody.{CheckedBody}
use Rattle.catalogue.specs.declared.checked.CheckedBody.TheVariants as body
use Rattle.classifier.specs.Classes.{has_serial, tables_mask}
use Rattle.session_machine.specs.declared.work.Verb.TheVariants as verbs
use Rattle.session_machine.specs.declared.work.Class.{Class}
use Rattle.session_machine.specs.declared.work.Class.TheVariants as classes
use Rattle.session_machine.specs.declared.work.Work.{Work}

abbrev pub class_in : CheckedBody → Class
class_in (body.Read read) = if read.for_update then classes.LockingRead else classes.Read
class_in (body.Insert insert) = if has_serial insert.rows then classes.SerialInsert insert.table else classes.Write verbs.Insert
class_in (body.Change change) = classes.Write verbs.Update
class_in (body.Remove remove) = classes.Write verbs.Delete

-- a statement with its class and its tables
abbrev pub work_in : Checked → Work
work_in checked = record { statement = checked; class = class_in checked.body; tables = tables_mask checked.body }
