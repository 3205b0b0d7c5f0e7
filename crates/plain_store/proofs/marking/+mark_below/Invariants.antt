use Rattle.plain_store.proofs.marking.+mark_below.Given as goal

abbrev pub decreases-mark_below : goal.decreases-mark_below
decreases-mark_below l = l.n
