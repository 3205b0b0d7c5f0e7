use Rattle.std.proofs.Common.{take}
use Rattle.std.specs.Prelude.{Ok}
use Rattle.typed_sql.specs.Steps.{Each}
use Rattle.typed_sql.specs.Meaning.{scope_of}
use Rattle.catalogue.specs.Statements.{OrderOf}
use Rattle.catalogue.proofs.select.keys_of.Given as goal

abbrev pub invariant-loop-item : goal.invariant-loop-item
invariant-loop-item l = Each (OrderOf (scope_of l.check.scope)) (take l.item-index l.order) l.known (Ok (l.keys, l.known))
