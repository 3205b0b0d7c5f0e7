use Rattle.pg_values.proofs.RoundTrip.{text_again}
use Rattle.pg_values.proofs.laws.text_is_read_again.Goals as goal

pub returns : goal.returns
returns c = text_again
