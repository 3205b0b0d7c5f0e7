use Rattle.schema.proofs.Completed.{completed}
use Rattle.schema.proofs.laws.what_begins_a_schema_goes_on.Goals as goal

pub returns : goal.returns
returns c = completed
