use Rattle.std.proofs.Common.{◌≡◌, List, sym, subst}
use Rattle.schema.specs.declared.catalogue.TableDef.{TableDef}
use Rattle.one_copy_model.specs.World.{first_world}
use Rattle.world_program.specs.Meaning.{world_in}
use Rattle.world_program.proofs.Beginning.{first_is}
use Rattle.world_program.proofs.data.Replicas.new.Goals as goal

pub returns : goal.returns
returns c =
    subst
    (λ (tables : List TableDef). world_in tables c.args.policy c.new.result.state c.in_ok-cores.field-0.items c.in_ok-backends.backends.items
    ≡ first_world c.args.catalogue c.args.policy c.args.attached)
    (sym c.catalogue.view_is)
    (first_is c.args.catalogue c.args.policy c.args.attached c.new.result.state c.in_ok-cores.field-0.items c.in_ok-backends.backends.items c.new.ensures
    c.in_ok-cores.ensures.new c.in_ok-backends.ensures.all)
