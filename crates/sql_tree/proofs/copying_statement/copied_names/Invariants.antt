use Rattle.std.proofs.Common.{◌≡◌, take}
use Rattle.sql_tree.proofs.copying_statement.copied_names.Given as goal

abbrev pub invariant-loop-name : goal.invariant-loop-name
invariant-loop-name l = l.copies ≡ take l.name-index l.name-items
