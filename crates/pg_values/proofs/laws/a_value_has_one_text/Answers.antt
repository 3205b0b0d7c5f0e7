use Rattle.pg_values.proofs.OnePrint.{one_text}
use Rattle.pg_values.proofs.laws.a_value_has_one_text.Goals as goal

pub returns : goal.returns
returns c = one_text
