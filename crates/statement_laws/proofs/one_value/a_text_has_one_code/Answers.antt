use Rattle.pg_values.proofs.Exactness.{refuses_once}
use Rattle.statement_laws.proofs.one_value.a_text_has_one_code.Goals as goal

pub returns : goal.returns
returns c = refuses_once
