use Rattle.std.proofs.Common.{◌≡◌, take}
use Rattle.checked_print.specs.Statements.{column_names}
use Rattle.checked_print.proofs.speller.column_names.Given as goal

abbrev pub invariant-loop-column : goal.invariant-loop-column
invariant-loop-column l = l.made ≡ column_names (take l.column-index l.column-items)
