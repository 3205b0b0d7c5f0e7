use Rattle.std.proofs.Common.{None, subst}
use Rattle.wire_query.specs.Verdicts.{Judges}
use Rattle.wire_query.proofs.asking.work.Goals as goal

pub returns-in-Refused : goal.returns-in-Refused
returns-in-Refused c = subst (λ v. Judges c.args.tables.now c.args.statement.now None v) c.in-Refused.is c.in_ok-checked.ensures
