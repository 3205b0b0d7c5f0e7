use Rattle.std.proofs.Common.{◌≡◌, drop}
use Rattle.std.specs.List.{list_any}
use Rattle.classifier.specs.Classes.{is_serial, has_serial}
use Rattle.classifier.proofs.class.has_serial.Given as goal

abbrev pub invariant-loop-row : goal.invariant-loop-row
invariant-loop-row l = has_serial (drop l.row-index l.rows) ≡ has_serial l.rows
