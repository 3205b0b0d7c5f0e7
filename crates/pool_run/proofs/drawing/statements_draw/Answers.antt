use Rattle.std.proofs.Common.{◌↔◌, List, sym, subst}
use Rattle.std.specs.Prelude.{IfOk, IsTrue}
use Rattle.sql_tree.specs.declared.statement.Statement.{Statement}
use Rattle.pool_run.specs.Drawing.{StatementsDraw}
use Rattle.pool_run.proofs.DrawingLemmas.{one_item}
use Rattle.pool_run.proofs.drawing.statements_draw.Goals as goal

pub returns-in-len1 : goal.returns-in-len1
returns-in-len1 c =
    subst (λ (all : List Statement). IfOk c.statement_draws.result (λ d. IsTrue d ↔ StatementsDraw c.args.tables.now all))
    (sym (one_item c.args.all.now c.one-item.result c.in-len1.len_at_least c.in-len1.len_below c.one-item.is)) c.statement_draws.ensures
