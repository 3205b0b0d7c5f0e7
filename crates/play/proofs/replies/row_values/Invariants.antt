use Rattle.std.proofs.Common.{take}
use Rattle.std.specs.List.{AllZip}
use Rattle.play.specs.Answering.{IsCellText}
use Rattle.play.proofs.replies.row_values.Given as goal

abbrev pub invariant-loop-value : goal.invariant-loop-value
invariant-loop-value l = AllZip IsCellText (take l.value-index l.cells) l.values
