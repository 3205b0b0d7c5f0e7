use Rattle.std.proofs.Common.{◌∷◌, ◌++◌, []}
use Rattle.pg_messages.specs.declared.server.ServerMessage.TheVariants.{Ready}
use Rattle.play.proofs.SendingLemmas.{sent_on}
use Rattle.play.proofs.session.answer_fully.Goals as goal

pub returns-clause-replies : goal.returns-clause-replies
returns-clause-replies g c =
    let told = c.in_ok-answer_asked.ensures.replies in
    (told.0 ++ Ready 73 ∷ [], told.1, sent_on c.args.output.now c.answer_asked.new.output c.send.new.output told.0 (Ready 73 ∷ []) told.2 c.in_ok-send.ensures)
