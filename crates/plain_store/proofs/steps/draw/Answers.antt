use Rattle.plain_store.proofs.AnsweredLaws.{few_of}
use Rattle.plain_store.proofs.steps.draw.Goals as goal

pub draw-requires : goal.draw-requires
draw-requires c = few_of c.args.catalogue.now c.args.request.now c.in-Run.statement c.in-Run.is c.requires
