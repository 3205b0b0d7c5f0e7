use Rattle.std.proofs.Common.{◌≡◌, ◌++◌, map, drop}
use Rattle.catalogue.specs.Statements.{numbered_from}
use Rattle.catalogue.specs.Targets.{target_of}
use Rattle.catalogue.proofs.insert.numbered.Given as goal

abbrev pub invariant-loop-column : goal.invariant-loop-column
invariant-loop-column l = (l.number ≡ l.column-index)
    × (numbered_from 0 l.columns ≡ map target_of l.given ++ numbered_from l.column-index (drop l.column-index l.columns))
