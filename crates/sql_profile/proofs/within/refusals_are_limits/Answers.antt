use Rattle.sql_profile.proofs.Told.{long}
use Rattle.sql_profile.proofs.within.refusals_are_limits.Goals as goal

pub returns : goal.returns
returns c = long
