use Rattle.one_copy_model.proofs.MarkLaws.{marked_only, marked_all}
use Rattle.one_copy_model.proofs.laws.marks_are_crossings.Goals as goal

pub returns : goal.returns
returns c = record { only = marked_only; all = marked_all }
