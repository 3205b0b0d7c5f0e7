use Rattle.std.proofs.Common.{sym, arith}
use Rattle.std.proofs.lemmas.Result.{err_from_is_err_and}
use Rattle.sql_tokens.specs.Grammar.{part}
use Rattle.sql_tokens.specs.Reading.{tails}
use Rattle.sql_tokens.proofs.Loops.{goes_on, ends, is_done}
use Rattle.sql_expr.specs.Reading.{after_comma}
use Rattle.sql_reader.specs.Reading.{cell_at}
use Rattle.sql_reader.proofs.insert.further_cells.Goals as goal

pub returns-in_err-part-clause-gives : goal.returns-in_err-part-clause-gives
returns-in_err-part-clause-gives c =
    let p = err_from_is_err_and c.from_residual.result c.from_residual.ensures.1 in
    rw (p.1, p.2) (ends c.in_err-part.field-0.0 after_comma part (cell_at 64) c.loop-after.parts c.loop-after.rest.now c.in-Some.after.now (tails after_comma part (cell_at 64) c.args.tokens.now) tt c.loop-after.invariant.going (sym c.in-Some.ensures.gives) (omega (arith, c.in-Some.ensures.shorter)) c.in_err-part.ensures.gives)

pub loop-after-preserved : goal.loop-after-preserved
loop-after-preserved c = record {
  going = rw c.in_ok-push.ensures.ok (goes_on after_comma part (cell_at 64) c.loop-after.parts c.loop-after.rest.now c.in-Some.after.now c.in_ok-part.after.now (tails after_comma part (cell_at 64) c.args.tokens.now) tt c.in_ok-part.part c.loop-after.invariant.going (sym c.in-Some.ensures.gives) c.in_ok-part.ensures.gives (omega (arith, c.in-Some.ensures.shorter, c.in_ok-part.ensures.shorter)));
  short = omega (arith, c.in-Some.ensures.shorter, c.in_ok-part.ensures.shorter);
}

pub returns-clause-gives : goal.returns-clause-gives
returns-clause-gives c = is_done after_comma part (cell_at 64) c.loop-after.parts c.loop-after.rest.now (tails after_comma part (cell_at 64) c.args.tokens.now) c.loop-after.invariant.going (sym c.in_default.ensures.gives)
