use Rattle.play.proofs.player.put_reply.Goals as goal

pub returns-in_ok-put_message-in-Whole-clause-within : goal.returns-in_ok-put_message-in-Whole-clause-within
returns-in_ok-put_message-in-Whole-clause-within g c = ((c.in_ok-read.ensures.whole c.in-Whole.message c.in-Whole.length).0 c.in-Whole.is).0
