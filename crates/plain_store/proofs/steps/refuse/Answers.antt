use Rattle.std.proofs.Common.{refl}
use Rattle.outcomes.specs.Next.{next_of}
use Rattle.plain_store.specs.Meaning.{store_of}
use Rattle.plain_store.proofs.AnsweredLaws.{store_with, kept_as, refuse_is}
use Rattle.plain_store.proofs.steps.refuse.Goals as goal

pub draw-requires : goal.draw-requires
draw-requires c = kept_as c.args.store.now c.args.s c.args.request.now c.args.request.now c.requires.waits refl

pub returns : goal.returns
returns c =
    refuse_is c.args.store.now c.args.s (store_of c.settle.new.store) (store_with c.args.store.now c.draw.new.numbers) c.args.request.now (next_of c.draw.new.numbers) c.draw.ensures refl c.settle.ensures
