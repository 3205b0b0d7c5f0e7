use Rattle.sql_profile.proofs.FormedLaw.{texts_are_formed}
use Rattle.sql_profile.proofs.formed.texts_are_formed.Goals as goal

pub returns : goal.returns
returns c = texts_are_formed
