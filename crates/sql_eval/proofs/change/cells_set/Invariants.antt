use Rattle.std.proofs.Common.{◌≡◌, drop, map}
use Rattle.sql_eval.specs.Walks.{made, all_of}
use Rattle.sql_eval.specs.Reads.{alone}
use Rattle.sql_eval.specs.Stored.{cells_set, put_sets, set_value}
use Rattle.sql_eval.proofs.change.cells_set.Given as goal

abbrev pub invariant-loop-set : goal.invariant-loop-set
invariant-loop-set l =
    made (λ values. put_sets (drop l.set-index l.sets) values l.cells.items) (all_of (map (set_value alone l.columns l.old) (drop l.set-index l.sets)))
    ≡ cells_set alone l.columns l.sets l.old
