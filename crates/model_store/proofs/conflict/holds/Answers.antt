use Rattle.model_store.proofs.conflict.holds.Goals as goal

pub returns-in-Places : goal.returns-in-Places
returns-in-Places c = rw (c.in-Places.is, c.in-Open.is) c.holds_places.ensures

pub returns-in-Table : goal.returns-in-Table
returns-in-Table c = rw (c.in-Table.is, c.in-Open.is) c.holds_table.ensures
