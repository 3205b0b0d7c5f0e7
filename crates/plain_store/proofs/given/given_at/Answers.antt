use Rattle.std.proofs.Common.{◌≡◌, sym}
use Rattle.std.specs.Prelude.{Some, slice_get}
use Rattle.std.proofs.lemmas.Option.{slice_get_read}
use Rattle.plain_store.proofs.SessionLaws.{given_here_as}
use Rattle.plain_store.proofs.KeptLaws.{kept_here, stored_here}
use Rattle.plain_store.proofs.given.given_at.Goals as goal

pub given_by-requires-clause-kept : goal.given_by-requires-clause-kept
given_by-requires-clause-kept c =
    let d = c.args.store.now in
    kept_here d c.args.s c.index-waits.result.now (slice_get_read d.requests.items 65 c.args.s c.index-waits.result.now (sym d.requested) c.requires c.index-waits.ensures)

pub given_by-requires-clause-stored : goal.given_by-requires-clause-stored
given_by-requires-clause-stored c =
    let d = c.args.store.now in
    stored_here d c.args.s c.index-phase.result.now (slice_get_read d.phases.items 65 c.args.s c.index-phase.result.now (sym d.phased) c.requires c.index-phase.ensures)

pub returns : goal.returns
returns c =
    let d = c.args.store.now in
    given_here_as d c.args.s c.index-phase.result.now c.index-waits.result.now c.given_by.result
    (slice_get_read d.phases.items 65 c.args.s c.index-phase.result.now (sym d.phased) c.requires c.index-phase.ensures)
    (slice_get_read d.requests.items 65 c.args.s c.index-waits.result.now (sym d.requested) c.requires c.index-waits.ensures) c.given_by.ensures
