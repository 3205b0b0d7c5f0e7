use Rattle.std.proofs.Common.{◌<◌, ◌∙◌, refl, sym, ap, subst, arith, length}
use Rattle.std.proofs.lemmas.Option.{slice_get_read}
use Rattle.session_machine.specs.declared.machine.Machine.{Machine}
use Rattle.session_machine.specs.Allowed.{MayHappen}
use Rattle.session_machine.specs.Rules.{after}
use Rattle.session_engine.specs.Tidying.{tidied}
use Rattle.world_program.specs.Meaning.{machine_at}
use Rattle.world_program.proofs.Stepping.{machine_is}
use Rattle.world_program.proofs.moving.session_moved.Goals as goal

pub moved-requires : goal.moved-requires
moved-requires c =
    let w = c.args.w in
    let s = c.args.s.number in
    let below : s < length w.cores.items = omega (arith, w.sessions, c.args.s.up_to_64) in
    let there = slice_get_read w.cores.items (length w.cores.items) s c.index_mut.result.now refl below c.index_mut.ensures.value in
    subst (λ (m : Machine). MayHappen m c.args.event.now) (ap (machine_at w.policy s) there) c.requires

pub returns : goal.returns
returns c =
    let w = c.args.w in
    let s = c.args.s.number in
    let below : s < length w.cores.items = omega (arith, w.sessions, c.args.s.up_to_64) in
    let there = slice_get_read w.cores.items (length w.cores.items) s c.index_mut.result.now refl below c.index_mut.ensures.value in
    machine_is w.catalogue w.policy w.gate.state w.cores.items w.backends.items s c.index_mut.result.now c.moved.new.core _ below there
    (c.in_ok-moved.ensures ∙ ap (λ (m : Machine). tidied (after m c.args.event.now)) (ap (machine_at w.policy s) (sym there)))
