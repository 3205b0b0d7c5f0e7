use Rattle.std.proofs.Common.{◌∷◌, [], subst}
use Rattle.pg_messages.specs.declared.server.ServerMessage.{ServerMessage}
use Rattle.play.specs.Replies.{Sent}
use Rattle.play.proofs.session.send_error.Goals as goal

pub send-requires : goal.send-requires
send-requires c = c.in_ok-message.ensures.fits c.requires

pub returns : goal.returns
returns c = let P : ServerMessage → Type 0 = λ m. Sent c.args.output.now c.send.new.output (m ∷ []) in subst P c.in_ok-message.ensures.error c.in_ok-send.ensures
