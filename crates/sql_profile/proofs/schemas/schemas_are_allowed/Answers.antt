use Rattle.sql_profile.proofs.Tables.{says_allowed}
use Rattle.sql_profile.proofs.schemas.schemas_are_allowed.Goals as goal

pub returns : goal.returns
returns c = says_allowed
