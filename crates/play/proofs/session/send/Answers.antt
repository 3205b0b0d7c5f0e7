use Rattle.play.proofs.SendingLemmas.{sent_one}
use Rattle.play.proofs.session.send.Goals as goal

pub returns : goal.returns
returns c = sent_one c.args.output.now c.write_server.new.onto c.args.message c.in_ok-write_server.ensures.spelled c.in_ok-write_server.ensures.again
