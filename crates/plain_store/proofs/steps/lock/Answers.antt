use Rattle.std.proofs.Common.{sym}
use Rattle.std.proofs.lemmas.Option.{slice_get_read}
use Rattle.plain_store.specs.Meaning.{store_of}
use Rattle.plain_store.proofs.AnsweredLaws.{lock_settles, lock_is}
use Rattle.plain_store.proofs.steps.lock.Goals as goal

pub settle-requires-clause-stored : goal.settle-requires-clause-stored
settle-requires-clause-stored c =
    let d = c.args.store.now in
    lock_settles d c.args.s c.index-phase.result.now c.in_ok-later.later c.args.table
    (slice_get_read d.phases.items 65 c.args.s c.index-phase.result.now (sym d.phased) c.requires c.index-phase.ensures) c.in_ok-later.ensures

pub returns : goal.returns
returns c =
    let d = c.args.store.now in
    lock_is d c.args.s (store_of c.settle.new.store) c.index-phase.result.now c.in_ok-later.later c.args.table
    (slice_get_read d.phases.items 65 c.args.s c.index-phase.result.now (sym d.phased) c.requires c.index-phase.ensures) c.in_ok-later.ensures c.settle.ensures
