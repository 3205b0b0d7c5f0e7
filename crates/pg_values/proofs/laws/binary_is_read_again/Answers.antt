use Rattle.pg_values.proofs.RoundTrip.{binary_again}
use Rattle.pg_values.proofs.laws.binary_is_read_again.Goals as goal

pub returns : goal.returns
returns c = binary_again
