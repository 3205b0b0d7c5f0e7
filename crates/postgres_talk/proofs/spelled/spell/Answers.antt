use Rattle.postgres_talk.proofs.spelled.spell.Goals as goal

pub returns-in-TakeSnapshot-clause-bytes : goal.returns-in-TakeSnapshot-clause-bytes
returns-in-TakeSnapshot-clause-bytes c = rw c.in-TakeSnapshot.is c.snapshot.ensures.bytes

pub returns-in-Run-clause-bytes : goal.returns-in-Run-clause-bytes
returns-in-Run-clause-bytes c = rw c.in-Run.is c.statement.ensures.bytes

pub returns-in-Run-clause-there : goal.returns-in-Run-clause-there
returns-in-Run-clause-there c = λ e. absurd (c.statement.ensures.there e)
