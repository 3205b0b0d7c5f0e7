use Rattle.std.proofs.Common.{◌↔◌, List, sym, ◌∙◌, subst}
use Rattle.std.specs.Prelude.{IfOk, IsTrue}
use Rattle.sql_tree.specs.declared.statement.Statement.{Statement}
use Rattle.wire_query.specs.Texts.{IsReading}
use Rattle.pool_run.specs.Drawing.{StatementsDraw}
use Rattle.pool_run.proofs.DrawingLemmas.{text_read, text_refused}
use Rattle.pool_run.proofs.drawing.short_text_draws.Goals as goal

pub returns-in-Statements : goal.returns-in-Statements
returns-in-Statements c =
    let reads = subst (IsReading c.args.text.now) c.in-Statements.is c.in_ok-statements.ensures.reading in
    text_read c.args.tables.now c.args.text.now c.in-Statements.statements c.statements_draw.result reads.0 c.requires.short reads.1
    (λ found utf8 short says. sym c.in-Statements.is ∙ c.in_ok-statements.ensures.only found utf8 short says)
    (subst (λ (all : List Statement). IfOk c.statements_draw.result (λ d. IsTrue d ↔ StatementsDraw c.args.tables.now all)) c.as_slice.ensures c.statements_draw.ensures)

pub returns : goal.returns
returns c =
    text_refused c.args.tables.now c.args.text.now c.in-Refused.field-0
    (λ found utf8 short says. sym c.in-Refused.is ∙ c.in_ok-statements.ensures.only found utf8 short says)
