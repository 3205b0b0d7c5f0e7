use Rattle.std.proofs.Common.{◌+◌, List, drop, ap, ◌∙◌, arith, Bor}
use Rattle.std.specs.Prelude.{Option}
use Rattle.std.proofs.lemmas.Result.{err_from_is_err_and}
use Rattle.sql_eval.specs.declared.row.Row.{Row}
use Rattle.sql_eval.specs.declared.effect.Change.{Change}
use Rattle.sql_eval.specs.Views.{entry_of}
use Rattle.sql_eval.specs.Walks.{walked}
use Rattle.sql_eval.specs.Reads.{alone}
use Rattle.sql_eval.specs.Stored.{removal_of}
use Rattle.sql_eval.proofs.Walking.{put_before, nothing_before, walked_stops, walked_step, walked_end, code_on}
use Rattle.sql_eval.proofs.change.removals.Goals as goal

pub loop-row-init : goal.loop-row-init
loop-row-init c =
    let f = λ (r : Bor Row). removal_of alone c.args.remove.now (entry_of c.args.key r.now) in
    ap (λ (front : List Change). put_before front (walked f c.args.rows.now)) c.new-made.ensures ∙ nothing_before (walked f c.args.rows.now)

pub returns-in_err-step : goal.returns-in_err-step
returns-in_err-step c =
    let f = λ (r : Bor Row). removal_of alone c.args.remove.now (entry_of c.args.key r.now) in
    let p = err_from_is_err_and c.from_residual.result c.from_residual.ensures.1 in
    rw (p.1, p.2) (code_on (λ (o : Option Change). o) (λ (cs : List Change). cs) c.in_err-step.field-0.0 (f c.row-item.result) (walked f c.args.rows.now) c.in_err-step.ensures
    (λ code is. walked_stops f c.args.rows.now c.loop-row.row-index c.row-item.result c.loop-row.made (walked f c.args.rows.now) (omega arith) c.row-item.is c.loop-row.invariant code is))

pub loop-row-preserved : goal.loop-row-preserved
loop-row-preserved c =
    let f = λ (r : Bor Row). removal_of alone c.args.remove.now (entry_of c.args.key r.now) in
    ap (λ (front : List Change). put_before front (walked f (drop (c.loop-row.row-index + 1) c.args.rows.now))) c.in_ok-keep.ensures
    ∙ walked_step f c.args.rows.now c.loop-row.row-index c.row-item.result c.loop-row.made (walked f c.args.rows.now) (omega arith) c.row-item.is c.loop-row.invariant
    c.in_ok-step.step c.in_ok-step.ensures

pub returns : goal.returns
returns c =
    let f = λ (r : Bor Row). removal_of alone c.args.remove.now (entry_of c.args.key r.now) in
    walked_end f c.args.rows.now c.loop-row.row-index c.loop-row.made (walked f c.args.rows.now) (omega arith) c.loop-row.invariant
