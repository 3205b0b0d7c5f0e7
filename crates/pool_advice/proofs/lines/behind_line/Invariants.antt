use Rattle.std.proofs.Common.{◌≡◌, length}
use Rattle.pool_config.specs.Bytes.{behind}
use Rattle.pool_config.specs.declared.line.Class.TheVariants.{InLine}
use Rattle.pool_advice.proofs.lines.behind_line.Given as goal

-- what is behind the line of what is left is behind that of all
abbrev pub invariant-loop-left : goal.invariant-loop-left
invariant-loop-left l = behind InLine l.left ≡ behind InLine l.bytes

abbrev pub decreases-loop-left : goal.decreases-loop-left
decreases-loop-left l = length l.left
