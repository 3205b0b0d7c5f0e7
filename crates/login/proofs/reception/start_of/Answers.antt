use Rattle.login.proofs.reception.start_of.Goals as goal

pub returns-clause-length : goal.returns-clause-length
returns-clause-length c = λ m n is. ((c.in_ok-read.ensures.whole m n).0 is).0
