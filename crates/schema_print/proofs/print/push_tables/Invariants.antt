use Rattle.std.proofs.Common.{length}
use Rattle.std.specs.String.{string_bytes}
use Rattle.schema.specs.Ranges.{AreInRange}
use Rattle.schema_print.proofs.Steps.{GoesOn}
use Rattle.schema_print.proofs.print.push_tables.Given as goal

abbrev pub invariant-loop-left : goal.invariant-loop-left
invariant-loop-left l = record {
  on : GoesOn l.tables (string_bytes l.initial.onto) l.left (string_bytes l.onto);
  in_range : AreInRange l.left;
}

abbrev pub decreases-loop-left : goal.decreases-loop-left
decreases-loop-left l = length l.left
