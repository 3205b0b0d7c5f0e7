use Rattle.std.proofs.Common.{length, ◌+◌, ◌≡◌}
use Rattle.std.specs.String.{string_bytes}
use Rattle.schema.specs.Ranges.{AreColumnsInRange}
use Rattle.schema_print.proofs.Steps.{ColumnsGoOn}
use Rattle.schema_print.proofs.print.push_columns.Given as goal

abbrev pub invariant-loop-left : goal.invariant-loop-left
invariant-loop-left l = record {
  on : ColumnsGoOn l.key l.columns (string_bytes l.initial.onto) l.number l.left (string_bytes l.onto);
  in_range : AreColumnsInRange l.left;
  counted : l.number + length l.left ≡ length l.columns;
}

abbrev pub decreases-loop-left : goal.decreases-loop-left
decreases-loop-left l = length l.left
