use Rattle.std.proofs.Common.{◌≡◌, length, map, drop}
use Rattle.std.specs.Vec.Iter.{into_iter_items, into_iter_len}
use Rattle.catalogue.specs.Statements.{put_cells}
use Rattle.catalogue.specs.Targets.{target_of}
use Rattle.catalogue.proofs.insert.put_cells.Given as goal

abbrev pub invariant-loop-target : goal.invariant-loop-target
invariant-loop-target l = (into_iter_len l.left ≡ length (into_iter_items l.left))
    × (put_cells (map target_of l.given) l.fn.cells l.fn.row.items
    ≡ put_cells (map target_of (drop l.target-index l.given)) (into_iter_items l.left) l.row.items)
