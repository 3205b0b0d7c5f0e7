use Rattle.wire_reply.specs.Rows.{AreInRange}
use Rattle.dialogue_cases.proofs.given.rows_of.Given as goal

abbrev pub invariant-loop-line : goal.invariant-loop-line
invariant-loop-line l = AreInRange l.rows
