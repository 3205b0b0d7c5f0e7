use Rattle.std.proofs.Common.{◌++◌, ℕ, List, drop}
use Rattle.wire_nodes.specs.Nodes.{AreNodeRows}
use Rattle.wire_nodes.proofs.nodes.rows.Given as goal

abbrev pub invariant-loop-at : goal.invariant-loop-at
invariant-loop-at l = (more : List ℕ) → AreNodeRows l.attached.bits l.lowest l.at (drop l.at l.nodes) more → AreNodeRows l.attached.bits l.lowest 0 l.nodes (l.bytes ++ more)
