use Rattle.play_laws.proofs.Knowing.{play_is_steps, play_is_right}
use Rattle.play_laws.proofs.steps.plays_are_steps.Goals as goal

pub returns-clause-steps : goal.returns-clause-steps
returns-clause-steps c = play_is_steps

pub returns-clause-one_store : goal.returns-clause-one_store
returns-clause-one_store c = play_is_right
