use Rattle.std.proofs.Common.{◌≡◌, ◌++◌, ℕ, List, length, drop}
use Rattle.std.specs.Prelude.{Option}
use Rattle.wire_reply.specs.Rows.{AreCells}
use Rattle.wire_reply.proofs.rows.cells_of.Given as goal

abbrev pub invariant-loop-value : goal.invariant-loop-value
invariant-loop-value l = (length l.made ≡ l.value-index)
    × ((more : List (Option (List ℕ))) → AreCells l.formats l.value-index (drop l.value-index l.cells) more → AreCells l.formats 0 l.cells (l.made ++ more))
