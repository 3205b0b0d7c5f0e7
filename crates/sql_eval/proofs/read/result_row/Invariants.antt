use Rattle.std.proofs.Common.{◌≡◌, drop, map}
use Rattle.sql_values.specs.Meaning.{value_in}
use Rattle.sql_eval.specs.Walks.{all_of}
use Rattle.sql_eval.specs.Reads.{alone, at_row}
use Rattle.sql_eval.proofs.Walking.{put_before}
use Rattle.sql_eval.proofs.read.result_row.Given as goal

abbrev pub invariant-loop-item : goal.invariant-loop-item
invariant-loop-item l = put_before l.cells (all_of (map (value_in (at_row alone l.row)) (drop l.item-index l.list)))
    ≡ all_of (map (value_in (at_row alone l.row)) l.list)
