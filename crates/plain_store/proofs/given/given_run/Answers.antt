use Rattle.plain_store.proofs.given.given_run.Goals as goal

pub given_live-requires-clause-stored : goal.given_live-requires-clause-stored
given_live-requires-clause-stored c = rw c.in-Alive.is at c.requires.stored
