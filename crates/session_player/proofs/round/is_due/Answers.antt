use Rattle.session_player.proofs.Resting.{passed_still}
use Rattle.session_player.proofs.Stilling.{free_still}
use Rattle.session_player.proofs.round.is_due.Goals as goal

pub returns-in-Free-clause-others : goal.returns-in-Free-clause-others
returns-in-Free-clause-others c = λ none shared layout. free_still shared layout c.args.slot.now c.in-Free.is

pub returns-in-Taken-clause-others : goal.returns-in-Taken-clause-others
returns-in-Taken-clause-others c = λ none shared layout. passed_still shared layout c.args.slot.now c.in-Taken.client c.in-Taken.is (c.is_to_go.ensures.others none)
