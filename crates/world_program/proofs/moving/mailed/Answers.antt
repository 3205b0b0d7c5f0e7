use Rattle.std.proofs.Common.{◌<◌, refl, arith, length}
use Rattle.std.proofs.lemmas.Option.{slice_get_read}
use Rattle.world_program.proofs.Stepping.{mailed_is}
use Rattle.world_program.proofs.moving.mailed.Goals as goal

pub returns : goal.returns
returns c =
    let w = c.args.w in
    let below : c.args.b.number < length w.backends.items = omega (arith, w.numbered, c.args.b.below_8) in
    let there = slice_get_read w.backends.items (length w.backends.items) c.args.b.number c.index_mut.result.now refl below c.index_mut.ensures.value in
    let within : c.args.s.number < length c.index_mut.result.now.mail.items = omega (arith, c.index_mut.result.now.mailed, c.args.s.up_to_64) in
    mailed_is w.catalogue w.policy w.gate.state w.cores.items w.backends.items c.args.s.number c.args.b.number c.index_mut.result.now _ c.args.answer below there within refl refl
