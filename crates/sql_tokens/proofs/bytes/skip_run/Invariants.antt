use Rattle.std.proofs.Common.{◌≡◌, length}
use Rattle.sql_tokens.specs.Bytes.{behind}
use Rattle.sql_tokens.proofs.bytes.skip_run.Given as goal

-- what is behind the run of what is left is behind that of all
abbrev pub invariant-loop-left : goal.invariant-loop-left
invariant-loop-left l = behind l.class l.left ≡ behind l.class l.bytes

abbrev pub decreases-loop-left : goal.decreases-loop-left
decreases-loop-left l = length l.left
