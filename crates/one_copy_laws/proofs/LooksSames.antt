-- Two answers that are done are the same.
use Rattle.std.proofs.Common.{◌≡◌, true, refl}
use Rattle.backend_trait.specs.declared.answer.Answer.TheVariants as answers
use Rattle.session_machine.specs.Answers.{is_same}

pub done_same : is_same answers.Done answers.Done ≡ true
done_same = refl

pub began_same : is_same answers.Began answers.Began ≡ true
began_same = refl
