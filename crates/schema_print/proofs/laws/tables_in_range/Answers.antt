use Rattle.std.proofs.Common.{[]}
use Rattle.schema_print.proofs.Ranges.{tables_range}
use Rattle.schema_print.proofs.laws.tables_in_range.Goals as goal

pub returns : goal.returns
returns c = λ text tables says. tables_range [] _ tables [] says.2.0
