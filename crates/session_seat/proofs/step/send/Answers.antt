use Rattle.session_seat.proofs.step.send.Goals as goal

pub returns-clause-serves : goal.returns-clause-serves
returns-clause-serves g c = λ tables. (c.in_ok-post.ensures.idle, c.in_ok-post.ensures.posted)
