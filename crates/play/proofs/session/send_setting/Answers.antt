use Rattle.std.proofs.Common.{◌∷◌, [], sym, subst}
use Rattle.pg_messages.specs.declared.server.ServerMessage.{ServerMessage}
use Rattle.pg_messages.specs.Server.{Fits}
use Rattle.play.specs.Replies.{Sent}
use Rattle.play.proofs.SendingLemmas.{setting_fits}
use Rattle.play.proofs.session.send_setting.Goals as goal

pub send-requires : goal.send-requires
send-requires c = subst Fits (sym c.in_ok-message.ensures) (setting_fits c.args.name.now c.args.value.now c.requires.name c.requires.value)

pub returns : goal.returns
returns c = let P : ServerMessage → Type 0 = λ m. Sent c.args.output.now c.send.new.output (m ∷ []) in subst P c.in_ok-message.ensures c.in_ok-send.ensures
