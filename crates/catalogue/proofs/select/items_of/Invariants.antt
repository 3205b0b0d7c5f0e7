use Rattle.std.proofs.Common.{take, suc}
use Rattle.std.specs.Prelude.{Ok}
use Rattle.typed_sql.specs.Steps.{Walk}
use Rattle.typed_sql.specs.Meaning.{scope_of}
use Rattle.catalogue.specs.Statements.{ItemOf}
use Rattle.catalogue.proofs.select.items_of.Given as goal

abbrev pub invariant-loop-item : goal.invariant-loop-item
invariant-loop-item l =
    Walk (ItemOf (scope_of l.check.scope)) (λ before e. suc before) 0 (take l.item-index l.items) l.initial.known.items (Ok (l.made, l.known.items))
