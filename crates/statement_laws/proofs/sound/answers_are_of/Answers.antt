use Rattle.statement_laws.proofs.Answered.{answer_is_of}
use Rattle.statement_laws.proofs.sound.answers_are_of.Goals as goal

pub returns : goal.returns
returns c = λ tables statement kinds checked allowed tree few answers.
    answer_is_of tables statement kinds checked allowed tree few answers
