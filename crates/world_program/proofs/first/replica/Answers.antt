use Rattle.std.proofs.Common.{◌∙◌, List, ap, sym, subst}
use Rattle.schema.specs.declared.catalogue.TableDef.{TableDef}
use Rattle.schema.specs.Allowed.{AreAllowed}
use Rattle.backend_trait.specs.Store.{prepared}
use Rattle.world_program.proofs.first.replica.Goals as goal

pub new-requires : goal.new-requires
new-requires c = subst (λ (tables : List TableDef). AreAllowed tables) (sym c.in_ok-catalogue_copied.ensures) c.requires.allowed

pub returns-clause-store : goal.returns-clause-store
returns-clause-store c = c.in_ok-new.ensures ∙ ap prepared c.in_ok-catalogue_copied.ensures
