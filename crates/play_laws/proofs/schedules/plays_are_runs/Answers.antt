use Rattle.play_laws.proofs.Plays.{play_is_run}
use Rattle.play_laws.proofs.schedules.plays_are_runs.Goals as goal

pub returns : goal.returns
returns c = play_is_run
