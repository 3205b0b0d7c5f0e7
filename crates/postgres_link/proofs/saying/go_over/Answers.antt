use Rattle.std.proofs.Common.{refl}
use Rattle.postgres_link.proofs.saying.go_over.Goals as goal

pub returns-in-Open-clause-stage : goal.returns-in-Open-clause-stage
returns-in-Open-clause-stage c = rw c.in-Open.is (c.args.code, refl, c.set.ensures)

pub returns-in-Begun-clause-stage : goal.returns-in-Begun-clause-stage
returns-in-Begun-clause-stage c = rw c.in-Begun.is (c.args.code, refl, c.set-in-Begun.ensures)

pub returns-in-Rows-clause-stage : goal.returns-in-Rows-clause-stage
returns-in-Rows-clause-stage c = rw c.in-Rows.is (c.args.code, refl, c.set-in-Rows.ensures)
