use Rattle.std.proofs.Common.{◌<◌, ◌∙◌, Bool, refl, sym, ap, subst, arith, length}
use Rattle.std.specs.Prelude.{◌↔◌, IsTrue, IfOk}
use Rattle.std.proofs.lemmas.Option.{slice_get_read}
use Rattle.session_machine.specs.declared.machine.Machine.{Machine}
use Rattle.one_copy_model.specs.World.{IsOrderable}
use Rattle.world_program.specs.Meaning.{machine_at}
use Rattle.world_program.proofs.may.lets_order.Goals as goal

pub returns : goal.returns
returns c =
    let w = c.args.w.now in
    let s = c.args.s.number in
    let below : s < length w.cores.items = omega (arith, w.sessions, c.args.s.up_to_64) in
    let there = slice_get_read w.cores.items (length w.cores.items) s c.index.result.now refl below c.index.ensures in
    subst (λ (m : Machine). IfOk c.is_orderable.result (λ (may : Bool). IsTrue may ↔ IsOrderable w.catalogue m.session c.args.order.now.moment c.args.order.now.body))
    (c.standing.ensures ∙ ap (machine_at w.policy s) (sym there)) c.is_orderable.ensures
