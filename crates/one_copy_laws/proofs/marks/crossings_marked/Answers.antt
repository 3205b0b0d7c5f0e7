use Rattle.one_copy_laws.proofs.MarksMarking.{marked_there}
use Rattle.one_copy_laws.proofs.marks.crossings_marked.Goals as goal

pub returns : goal.returns
returns c = marked_there
