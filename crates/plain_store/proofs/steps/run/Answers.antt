use Rattle.std.proofs.Common.{refl, sym}
use Rattle.std.specs.Prelude.{option_map}
use Rattle.std.proofs.lemmas.Option.{slice_get_read}
use Rattle.outcomes.specs.Given.{given_in}
use Rattle.outcomes.specs.Next.{next_of}
use Rattle.plain_store.specs.Meaning.{store_of}
use Rattle.plain_store.proofs.AnsweredLaws.{store_with, run_settles, run_is}
use Rattle.plain_store.proofs.steps.run.Goals as goal

pub settle-requires-clause-stored : goal.settle-requires-clause-stored
settle-requires-clause-stored c =
    let d = c.args.store.now in
    run_settles d c.args.s c.index-phase.result.now c.in_ok-later.later (option_map given_in c.in_ok-given.given)
    (slice_get_read d.phases.items 65 c.args.s c.index-phase.result.now (sym d.phased) c.requires.below c.index-phase.ensures) c.in_ok-given.ensures c.in_ok-later.ensures

pub returns : goal.returns
returns c =
    let d = c.args.store.now in
    run_is d c.args.s (store_with c.settle.new.store c.draw.new.self) c.index-phase.result.now c.in_ok-later.later (option_map given_in c.in_ok-given.given) c.args.statement.now
    (slice_get_read d.phases.items 65 c.args.s c.index-phase.result.now (sym d.phased) c.requires.below c.index-phase.ensures) c.in_ok-given.ensures c.in_ok-later.ensures c.requires.waits
    (next_of c.draw.new.self) (store_of c.settle.new.store) c.settle.ensures c.draw.ensures refl
