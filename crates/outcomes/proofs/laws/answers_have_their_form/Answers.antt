use Rattle.outcomes.proofs.Shaped.{answer_shaped}
use Rattle.outcomes.proofs.laws.answers_have_their_form.Goals as goal

pub returns : goal.returns
returns c = λ tables checked view next answer changes places runnable stored gives. answer_shaped tables checked view runnable stored next answer changes places gives
