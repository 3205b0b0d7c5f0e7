use Rattle.std.proofs.Common.{◌↔◌, IfOk, IsTrue, Bool, sym, subst}
use Rattle.one_copy_model.specs.declared.event.Event.{Event}
use Rattle.one_copy_model.specs.World.{MayHappen}
use Rattle.world_program.specs.Meaning.{world_of}
use Rattle.world_program.proofs.may.may_happen.Goals as goal

pub returns-in-Act : goal.returns-in-Act
returns-in-Act c =
    subst (λ (event : Event). IfOk c.acts.result (λ (may : Bool). IsTrue may ↔ MayHappen (world_of c.args.w.now) event)) (sym c.in-Act.is) c.acts.ensures
