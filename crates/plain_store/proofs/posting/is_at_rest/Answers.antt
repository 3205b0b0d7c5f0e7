use Rattle.std.proofs.Common.{◌≡◌, ◌<◌, Bool, arith, subst, sym}
use Rattle.std.specs.Prelude.{None}
use Rattle.std.proofs.lemmas.Option.{slice_get_read}
use Rattle.plain_store.specs.Meaning.{store_of}
use Rattle.backend_trait.proofs.Telling.{Tells}
use Rattle.plain_store.proofs.PostLaws.{idle_here}
use Rattle.plain_store.proofs.posting.is_at_rest.Goals as goal

pub returns : goal.returns
returns c =
    let d = c.args.store.now in
    let below : c.args.s.number < 65 = omega (arith, c.args.s.up_to_64) in
    subst (λ (t : Bool). Tells t ((store_of d).pending c.args.s.number ≡ None)) (sym c.is_idle.ensures)
    (idle_here d c.args.s.number c.index-waits.result.now (slice_get_read d.requests.items 65 c.args.s.number c.index-waits.result.now (sym d.requested) below c.index-waits.ensures))
