use Rattle.statement_laws.proofs.AgainLaw.{is_again}
use Rattle.statement_laws.proofs.round.spelled_has_the_effect.Goals as goal

pub returns : goal.returns
returns c = λ tables checked kinds result allowed is well given answers. is_again tables checked kinds allowed is well given result answers
