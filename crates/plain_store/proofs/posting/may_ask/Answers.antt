use Rattle.std.proofs.Common.{◌<◌, arith, sym}
use Rattle.std.proofs.lemmas.Option.{slice_get_read}
use Rattle.plain_store.proofs.PostLaws.{admitted_here}
use Rattle.plain_store.proofs.posting.may_ask.Goals as goal

pub returns : goal.returns
returns c =
    let d = c.args.store.now in
    let below : c.args.s.number < 65 = omega (arith, c.args.s.up_to_64) in
    admitted_here d c.args.s.number c.index-phase.result.now c.args.request.now c.admits.result
    (slice_get_read d.phases.items 65 c.args.s.number c.index-phase.result.now (sym d.phased) below c.index-phase.ensures) c.admits.ensures
