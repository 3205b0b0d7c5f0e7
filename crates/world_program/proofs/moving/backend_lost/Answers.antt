use Rattle.std.proofs.Common.{◌<◌, ◌∙◌, ap, sym, refl, arith, length}
use Rattle.std.proofs.lemmas.Option.{slice_get_read}
use Rattle.backend_trait.specs.Store.{lost_by}
use Rattle.world_program.specs.Meaning.{store_in}
use Rattle.world_program.proofs.Stepping.{stored_is}
use Rattle.world_program.proofs.moving.backend_lost.Goals as goal

pub returns : goal.returns
returns c =
    let w = c.args.w in
    let below : c.args.b.number < length w.backends.items = omega (arith, w.numbered, c.args.b.below_8) in
    let there = slice_get_read w.backends.items (length w.backends.items) c.args.b.number c.index_mut.result.now refl below c.index_mut.ensures.value in
    stored_is w.catalogue w.policy w.gate.state w.cores.items w.backends.items c.args.b.number c.index_mut.result.now _ _ below there
    (c.lose.ensures ∙ ap (λ x. lost_by (store_in w.catalogue x)) (sym there)) refl
