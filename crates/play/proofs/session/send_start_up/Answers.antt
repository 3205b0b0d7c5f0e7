use Rattle.std.proofs.Common.{◌∷◌, [], pos}
use Rattle.pg_messages.specs.declared.server.ServerMessage.TheVariants.{BackendKey, Ready}
use Rattle.play.specs.Replies.{Sent, settings, start_up}
use Rattle.play.proofs.SendingLemmas.{sent_then, sent_on}
use Rattle.play.proofs.session.send_start_up.Goals as goal

pub returns : goal.returns
unfolding start_up
returns c =
    let key : Sent c.send_settings.new.output c.send-2.new.output (BackendKey (pos c.args.session.number) (pos 0) ∷ Ready 73 ∷ []) = sent_then c.in_ok-send_key.ensures c.in_ok-send-2.ensures in
    let told : Sent c.send.new.output c.send-2.new.output _ = sent_on c.send.new.output c.send_settings.new.output c.send-2.new.output settings (BackendKey (pos c.args.session.number) (pos 0) ∷ Ready 73 ∷ []) c.in_ok-send_settings.ensures key in
    sent_then c.in_ok-send.ensures told
