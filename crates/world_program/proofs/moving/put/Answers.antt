use Rattle.std.proofs.Common.{◌<◌, false, length, arith, ◌∙◌, sym, ap, subst}
use Rattle.std.specs.Prelude.{Option, slice_set}
use Rattle.std.proofs.lemmas.List.{length-set}
use Rattle.outcomes.specs.Next.{next_of}
use Rattle.backend_trait.specs.declared.request.Request.{Request}
use Rattle.plain_store.specs.Meaning.{store_in}
use Rattle.plain_store.specs.Kept.{IsKept}
use Rattle.plain_store.proofs.StepLaws.{posted_is}
use Rattle.plain_store.proofs.KeptLaws.{kept_set}
use Rattle.world_program.proofs.moving.put.Goals as goal

pub invariant_of-store-clause-requested : goal.invariant_of-store-clause-requested
invariant_of-store-clause-requested c = let d = c.args.store.now in length-set d.requests.items c.args.s.number c.replace.new.dest ∙ d.requested

pub invariant_of-store-clause-marked : goal.invariant_of-store-clause-marked
invariant_of-store-clause-marked c = let d = c.args.store.now in length-set d.crossed.items c.args.s.number _ ∙ d.marked

pub invariant_of-store-clause-kept : goal.invariant_of-store-clause-kept
invariant_of-store-clause-kept c =
    let d = c.args.store.now in
    kept_set d.catalogue d.requests.items c.args.s.number c.replace.new.dest d.kept
    (subst (IsKept d.catalogue) (sym c.replace.ensures.after) c.requires)

pub returns : goal.returns
returns c =
    let d = c.args.store.now in
    let below : c.args.s.number < length d.requests.items = omega (arith, c.args.s.up_to_64, d.requested) in
    let marked : c.args.s.number < length d.crossed.items = omega (arith, c.args.s.up_to_64, d.marked) in
    ap (λ (x : Option Request). store_in (next_of d.numbers) d.catalogue d.log.items d.phases.items (slice_set d.requests.items c.args.s.number x) (slice_set d.crossed.items c.args.s.number false) d.is_lost) c.replace.ensures.after
    ∙ posted_is (next_of d.numbers) d.catalogue d.log.items d.phases.items d.requests.items d.crossed.items d.is_lost c.args.s.number c.args.request below marked
