use Rattle.std.proofs.Common.{◌↔◌, Bool, sym, subst}
use Rattle.std.specs.Prelude.{IfOk, IsTrue}
use Rattle.sql_tree.specs.declared.statement.Statement.{Statement}
use Rattle.pool_run.specs.Drawing.{InsertDraws, StatementDraws}
use Rattle.pool_run.proofs.drawing.statement_draws.Goals as goal

pub returns-in-Insert : goal.returns-in-Insert
returns-in-Insert c =
    subst (λ (s : Statement). IfOk c.insert_draws.result (λ d. IsTrue d ↔ StatementDraws c.args.tables.now s)) (sym c.in-Insert.is)
    (subst (λ (s : Statement). IfOk c.insert_draws.result (λ d. IsTrue d ↔ InsertDraws c.args.tables.now s)) c.in-Insert.is c.insert_draws.ensures)
