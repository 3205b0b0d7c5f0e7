use Rattle.postgres_talk.proofs.answers.answer_of.Goals as goal

pub returns-in-Lock-clause-form : goal.returns-in-Lock-clause-form
returns-in-Lock-clause-form c = rw c.in-Lock.is c.lock_answer.ensures

pub returns-in-ReadSerial-clause-form : goal.returns-in-ReadSerial-clause-form
returns-in-ReadSerial-clause-form c = rw c.in-ReadSerial.is c.serial_answer.ensures
