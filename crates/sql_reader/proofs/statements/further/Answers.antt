use Rattle.std.proofs.Common.{sym, arith}
use Rattle.std.proofs.lemmas.Result.{err_from_is_err_and}
use Rattle.sql_reader.specs.TextReading.{further_at}
use Rattle.sql_reader.proofs.Loop.{goes_on, fails, is_done}
use Rattle.sql_reader.proofs.statements.further.Goals as goal

pub returns-in_err-more-clause-gives : goal.returns-in_err-more-clause-gives
returns-in_err-more-clause-gives c =
    let p = err_from_is_err_and c.from_residual.result c.from_residual.ensures.1 in
    rw (p.1, p.2) (fails c.in_err-more.field-0.0 64 c.loop-after.all c.loop-after.rest.now c.in-Some.after.now (further_at 64 c.args.statements c.args.tokens.now) c.loop-after.invariant.going (sym c.in-Some.ensures.gives) (omega (arith, c.in-Some.ensures.shorter)) c.in_err-more.ensures.gives)

pub loop-after-preserved : goal.loop-after-preserved
loop-after-preserved c = record {
  going = goes_on 64 c.loop-after.all c.in_ok-more.more c.loop-after.rest.now c.in-Some.after.now c.in_ok-more.after.now (further_at 64 c.args.statements c.args.tokens.now) c.loop-after.invariant.going (sym c.in-Some.ensures.gives) c.in_ok-more.ensures.gives (omega (arith, c.in-Some.ensures.shorter, c.in_ok-more.ensures.no_longer));
  short = omega (arith, c.in-Some.ensures.shorter, c.in_ok-more.ensures.no_longer);
}

pub returns-clause-gives : goal.returns-clause-gives
returns-clause-gives c = is_done 64 c.loop-after.all c.loop-after.rest.now (further_at 64 c.args.statements c.args.tokens.now) c.loop-after.invariant.going (sym c.in_default.ensures.gives)
