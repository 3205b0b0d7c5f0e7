use Rattle.std.proofs.Common.{◌<◌, length, arith, ◌∙◌, sym, ap, subst}
use Rattle.std.specs.Prelude.{Option, slice_set}
use Rattle.std.proofs.lemmas.List.{length-set}
use Rattle.outcomes.specs.Next.{next_of}
use Rattle.backend_trait.specs.declared.request.Request.{Request}
use Rattle.plain_store.specs.declared.data.Phase.{Phase}
use Rattle.plain_store.specs.Phases.{transaction_of}
use Rattle.plain_store.specs.Meaning.{store_in}
use Rattle.plain_store.specs.Kept.{IsKept, IsStoredIn}
use Rattle.plain_store.proofs.StepLaws.{settled_is}
use Rattle.plain_store.proofs.KeptLaws.{kept_set, stored_set}
use Rattle.plain_store.proofs.steps.settle.Goals as goal

pub invariant_of-store-clause-requested : goal.invariant_of-store-clause-requested
invariant_of-store-clause-requested c = let d = c.args.store.now in length-set d.requests.items c.args.s c.replace-2.new.dest ∙ d.requested

pub invariant_of-store-clause-kept : goal.invariant_of-store-clause-kept
invariant_of-store-clause-kept c = let d = c.args.store.now in kept_set d.catalogue d.requests.items c.args.s c.replace-2.new.dest d.kept (subst (IsKept d.catalogue) (sym c.replace-2.ensures.after) tt)

pub invariant_of-store-clause-stored : goal.invariant_of-store-clause-stored
invariant_of-store-clause-stored c =
    let d = c.args.store.now in
    stored_set d.catalogue d.phases.items c.args.s c.replace.new.dest d.stored
    (subst (λ (p : Phase). IsStoredIn d.catalogue (transaction_of p)) (sym c.replace.ensures.after) c.requires.stored)

pub returns : goal.returns
returns c =
    let d = c.args.store.now in
    let seated : c.args.s < length d.phases.items = omega (arith, c.requires.below, d.phased) in
    let below : c.args.s < length d.requests.items = omega (arith, c.requires.below, d.requested) in
    ap (λ (p : Phase). store_in (next_of d.numbers) d.catalogue d.log.items (slice_set d.phases.items c.args.s p) (slice_set d.requests.items c.args.s c.replace-2.new.dest) d.crossed.items d.is_lost) c.replace.ensures.after
    ∙ ap (λ (x : Option Request). store_in (next_of d.numbers) d.catalogue d.log.items (slice_set d.phases.items c.args.s c.args.phase) (slice_set d.requests.items c.args.s x) d.crossed.items d.is_lost) c.replace-2.ensures.after
    ∙ settled_is (next_of d.numbers) d.catalogue d.log.items d.phases.items d.requests.items d.crossed.items d.is_lost c.args.s c.args.phase seated below
