use Rattle.backend_trait.proofs.ReadRows.{all_read}
use Rattle.backend_trait.proofs.types.reads_have_their_columns.Goals as goal

pub returns : goal.returns
returns c = all_read
