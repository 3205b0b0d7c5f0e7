use Rattle.std.proofs.Common.{◌<◌, ◌∙◌, ap, sym, subst, refl, arith, length, Some}
use Rattle.std.specs.Prelude.{Option}
use Rattle.std.proofs.lemmas.Option.{slice_get_read}
use Rattle.backend_trait.specs.Store.{posted}
use Rattle.plain_store.specs.Kept.{IsKept}
use Rattle.one_copy_model.specs.Marks.{marked}
use Rattle.world_program.specs.declared.data.Replica.{Replica}
use Rattle.world_program.specs.Meaning.{store_in}
use Rattle.world_program.proofs.Stepping.{stored_is}
use Rattle.world_program.proofs.moving.asked.Goals as goal

pub store_asked-requires : goal.store_asked-requires
store_asked-requires c =
    let w = c.args.w in
    let below : c.args.b.number < length w.backends.items = omega (arith, w.numbered, c.args.b.below_8) in
    let there = slice_get_read w.backends.items (length w.backends.items) c.args.b.number c.index_mut.result.now refl below c.index_mut.ensures.value in
    subst (λ (x : Option Replica). IsKept (store_in w.catalogue x).tables (Some c.args.request.now)) there c.requires

pub returns : goal.returns
returns c =
    let w = c.args.w in
    let below : c.args.b.number < length w.backends.items = omega (arith, w.numbered, c.args.b.below_8) in
    let there = slice_get_read w.backends.items (length w.backends.items) c.args.b.number c.index_mut.result.now refl below c.index_mut.ensures.value in
    stored_is w.catalogue w.policy w.gate.state w.cores.items w.backends.items c.args.b.number c.index_mut.result.now _ _ below there
    (c.in_ok-store_asked.ensures ∙ ap (λ x. marked (posted (store_in w.catalogue x) c.args.s.number c.args.request.now)) (sym there)) refl
