use Rattle.std.proofs.Common.{◌∷◌, [], codes}
use Rattle.pg_messages.specs.declared.server.ServerMessage.TheVariants.{ParameterStatus}
use Rattle.play.specs.Replies.{Sent}
use Rattle.play.proofs.SendingLemmas.{sent_then}
use Rattle.play.proofs.session.send_settings.Goals as goal

pub returns : goal.returns
returns c =
    let s1 : Sent c.args.output.now c.send_setting.new.output (ParameterStatus (codes "client_encoding") (codes "UTF8") ∷ []) = c.in_ok-send_setting.ensures in
    let s2 : Sent c.send_setting.new.output c.send_setting-2.new.output (ParameterStatus (codes "DateStyle") (codes "ISO, MDY") ∷ []) = c.in_ok-send_setting-2.ensures in
    let s3 : Sent c.send_setting-2.new.output c.send_setting-3.new.output (ParameterStatus (codes "integer_datetimes") (codes "on") ∷ []) = c.in_ok-send_setting-3.ensures in
    let s4 : Sent c.send_setting-3.new.output c.send_setting-4.new.output (ParameterStatus (codes "server_encoding") (codes "UTF8") ∷ []) = c.in_ok-send_setting-4.ensures in
    let s5 : Sent c.send_setting-4.new.output c.send_setting-5.new.output (ParameterStatus (codes "server_version") (codes "14.0") ∷ []) = c.in_ok-send_setting-5.ensures in
    let s6 : Sent c.send_setting-5.new.output c.send_setting-6.new.output (ParameterStatus (codes "standard_conforming_strings") (codes "on") ∷ []) = c.in_ok-send_setting-6.ensures in
    let s7 : Sent c.send_setting-6.new.output c.send_setting-7.new.output (ParameterStatus (codes "TimeZone") (codes "UTC") ∷ []) = c.in_ok-send_setting-7.ensures in
    sent_then s1 (sent_then s2 (sent_then s3 (sent_then s4 (sent_then s5 (sent_then s6 s7)))))
