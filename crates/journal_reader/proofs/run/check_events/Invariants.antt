use Rattle.std.proofs.Common.{◌+◌, ◌≤◌, length}
use Rattle.world_program.specs.Meaning.{world_of}
use Rattle.journal_reader.proofs.Running.{IsFrontOf}
use Rattle.journal_reader.proofs.run.check_events.Given as goal

abbrev pub invariant-lines : goal.invariant-lines
invariant-lines l = IsFrontOf l.start l.fn.lines l.left l.n (world_of l.w) × (l.n + length l.left ≤ length l.fn.lines)

abbrev pub decreases-lines : goal.decreases-lines
decreases-lines l = length l.left
