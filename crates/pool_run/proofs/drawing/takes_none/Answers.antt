use Rattle.std.proofs.Common.{map, sym, ◌∙◌}
use Rattle.pgproto.specs.Line.{line_of}
use Rattle.pool_run.proofs.DrawingLemmas.{takes_by}
use Rattle.pool_run.proofs.drawing.takes_none.Goals as goal

pub returns : goal.returns
returns c = takes_by c.args.tables.now (map line_of c.args.lines.now) c.none_draws.result (sym c.are_numberless.ensures ∙ c.if-are_numberless.false) c.none_draws.ensures
