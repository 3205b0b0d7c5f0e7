use Rattle.std.proofs.Common.{◌++◌, ℕ, List, drop}
use Rattle.wire_reply.specs.Rows.{AreRows}
use Rattle.wire_reply.proofs.rows.rows_bytes.Given as goal

abbrev pub invariant-loop-row : goal.invariant-loop-row
invariant-loop-row l = (more : List ℕ) → AreRows l.formats (drop l.row-index l.rows) more → AreRows l.formats l.rows (l.bytes ++ more)
