use Rattle.std.proofs.Common.{◌++◌, ℕ, List, drop}
use Rattle.wire_extended.specs.Giving.{EachIsRow}
use Rattle.wire_extended.proofs.executing.kept_rows.Given as goal

abbrev pub invariant-loop-row : goal.invariant-loop-row
invariant-loop-row l = (more : List (List ℕ)) → EachIsRow l.formats (drop l.row-index l.rows) more → EachIsRow l.formats l.rows (l.kept ++ more)
