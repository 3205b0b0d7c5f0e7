use Rattle.pg_values.proofs.Exactness.{reads_never}
use Rattle.statement_laws.proofs.one_value.no_text_is_read_and_refused.Goals as goal

pub returns : goal.returns
returns c = reads_never
