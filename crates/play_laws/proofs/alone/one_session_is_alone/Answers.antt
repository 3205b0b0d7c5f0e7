use Rattle.play_laws.proofs.AlonePlays.{alone_play}
use Rattle.play_laws.proofs.alone.one_session_is_alone.Goals as goal

pub returns : goal.returns
returns c = alone_play
