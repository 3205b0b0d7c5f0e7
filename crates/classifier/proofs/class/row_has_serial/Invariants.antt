use Rattle.std.proofs.Common.{◌≡◌, drop}
use Rattle.std.specs.List.{list_any}
use Rattle.classifier.specs.Classes.{is_serial}
use Rattle.classifier.proofs.class.row_has_serial.Given as goal

abbrev pub invariant-loop-cell : goal.invariant-loop-cell
invariant-loop-cell l = list_any is_serial (drop l.cell-index l.row) ≡ list_any is_serial l.row
