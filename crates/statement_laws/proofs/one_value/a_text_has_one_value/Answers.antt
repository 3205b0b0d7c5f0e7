use Rattle.pg_values.proofs.Exactness.{reads_once}
use Rattle.statement_laws.proofs.one_value.a_text_has_one_value.Goals as goal

pub returns : goal.returns
returns c = reads_once
