use Rattle.std.proofs.Common.{Some, subst}
use Rattle.wire_query.specs.Verdicts.{Judges}
use Rattle.wire_extended.proofs.parsing.prepared_work.Goals as goal

pub returns-in-Refused : goal.returns-in-Refused
returns-in-Refused c = subst (λ v. Judges c.args.tables.now c.args.statement.now (Some c.args.kinds.now) v) c.in-Refused.is c.in_ok-checked.ensures
