use Rattle.one_copy_laws.proofs.MarksCrossings.{carried}
use Rattle.one_copy_laws.proofs.marks.crossings_carry.Goals as goal

pub returns : goal.returns
returns c = carried
