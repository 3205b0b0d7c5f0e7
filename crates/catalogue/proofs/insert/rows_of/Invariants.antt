use Rattle.std.proofs.Common.{map, take}
use Rattle.std.specs.Prelude.{Ok}
use Rattle.typed_sql.specs.Steps.{Each}
use Rattle.typed_sql.specs.Meaning.{scope_of}
use Rattle.catalogue.specs.Statements.{RowOf}
use Rattle.catalogue.specs.Targets.{target_of}
use Rattle.catalogue.proofs.insert.rows_of.Given as goal

abbrev pub invariant-loop-row : goal.invariant-loop-row
invariant-loop-row l = Each (RowOf (scope_of l.check.scope) l.columns (map target_of l.given)) (take l.row-index l.rows)
    l.initial.known.items (Ok (l.made, l.known.items))
