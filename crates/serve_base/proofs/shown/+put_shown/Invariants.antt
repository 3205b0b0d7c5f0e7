use Rattle.serve_base.proofs.shown.+put_shown.Given as goal

abbrev pub decreases-put_shown : goal.decreases-put_shown
decreases-put_shown l = l.room
