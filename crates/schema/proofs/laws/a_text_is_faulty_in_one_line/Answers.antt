use Rattle.schema.proofs.OneLine.{one_line, no_schema}
use Rattle.schema.proofs.laws.a_text_is_faulty_in_one_line.Goals as goal

pub returns-clause-one : goal.returns-clause-one
returns-clause-one c = one_line

pub returns-clause-none : goal.returns-clause-none
returns-clause-none c = no_schema
