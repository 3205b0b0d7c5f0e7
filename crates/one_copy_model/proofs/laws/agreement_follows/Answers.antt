use Rattle.one_copy_model.proofs.InvariantLaws.{agree}
use Rattle.one_copy_model.proofs.laws.agreement_follows.Goals as goal

pub returns : goal.returns
returns c = agree
