use Rattle.std.proofs.Common.{◌<◌, arith, refl, sym}
use Rattle.std.proofs.lemmas.Option.{slice_get_read}
use Rattle.outcomes.specs.Next.{next_of}
use Rattle.plain_store.specs.Meaning.{store_of}
use Rattle.plain_store.proofs.KeptLaws.{kept_here}
use Rattle.plain_store.proofs.AnsweredLaws.{store_with, fall_is}
use Rattle.plain_store.proofs.data.Database.fall.Goals as goal

pub draw_waiting-requires : goal.draw_waiting-requires
draw_waiting-requires c =
    let d = c.args.self.now in
    let below : c.args.s.number < 65 = omega (arith, c.args.s.up_to_64) in
    kept_here d c.args.s.number c.index.result.now (slice_get_read d.requests.items 65 c.args.s.number c.index.result.now (sym d.requested) below c.index.ensures)

pub returns : goal.returns
returns c =
    let d = c.args.self.now in
    let below : c.args.s.number < 65 = omega (arith, c.args.s.up_to_64) in
    fall_is d c.args.s.number (store_of c.settle.new.store) (store_with d c.draw_waiting.new.numbers) c.index.result.now (next_of c.draw_waiting.new.numbers)
    (slice_get_read d.requests.items 65 c.args.s.number c.index.result.now (sym d.requested) below c.index.ensures) c.draw_waiting.ensures refl c.settle.ensures
