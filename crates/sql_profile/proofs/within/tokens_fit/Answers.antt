use Rattle.sql_profile.proofs.Stopped.{fit}
use Rattle.sql_profile.proofs.within.tokens_fit.Goals as goal

pub returns : goal.returns
returns c = fit
