use Rattle.std.proofs.Common.{◌↔◌, ℕ, List, sym, subst}
use Rattle.std.specs.Prelude.{IfOk, IsTrue}
use Rattle.pgproto.specs.Line.{line_of}
use Rattle.pgproto.specs.declared.line.ScriptLine.{ScriptLine}
use Rattle.pool_run.specs.Drawing.{LineDraws, TextDraws}
use Rattle.pool_run.proofs.drawing.line_draws.Goals as goal

pub returns-in-Query : goal.returns-in-Query
returns-in-Query c =
    subst (λ (l : ScriptLine). IfOk c.text_draws.result (λ d. IsTrue d ↔ LineDraws c.args.tables.now (line_of l))) (sym c.in-Query.is)
    (subst (λ (text : List ℕ). IfOk c.text_draws.result (λ d. IsTrue d ↔ TextDraws c.args.tables.now text)) c.as_bytes.ensures c.text_draws.ensures)
