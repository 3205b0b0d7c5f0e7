use Rattle.std.proofs.Common.{◌≡◌, ◌≤◌, ◌+◌, ◌++◌, length}
use Rattle.serve_base.specs.Status.{lines_from, status_text}
use Rattle.serve_base.proofs.writer.written.Given as goal

abbrev pub invariant-loop-left : goal.invariant-loop-left
invariant-loop-left l = record {
  all : l.text ++ lines_from l.number l.left ≡ status_text l.all;
  few : l.number + length l.left ≤ length l.all;
}

abbrev pub decreases-loop-left : goal.decreases-loop-left
decreases-loop-left l = length l.left
