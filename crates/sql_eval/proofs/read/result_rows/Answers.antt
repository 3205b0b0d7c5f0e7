use Rattle.std.proofs.Common.{◌+◌, List, map, drop, ap, ◌∙◌, arith, Bor}
use Rattle.std.proofs.lemmas.Result.{err_from_is_err_and}
use Rattle.sql_eval.specs.declared.row.Row.{Row}
use Rattle.sql_eval.specs.Walks.{all_of}
use Rattle.sql_eval.specs.Reads.{alone, result_row}
use Rattle.sql_eval.proofs.Walking.{put_before, nothing_before, all_stops, all_next, all_end, code_on}
use Rattle.sql_eval.proofs.read.result_rows.Goals as goal

pub loop-row-init : goal.loop-row-init
loop-row-init c =
    let f = λ (r : Bor Row). result_row alone c.args.list.now r.now in
    ap (λ (front : List Row). put_before front (all_of (map f c.args.rows.now))) c.new-made.ensures ∙ nothing_before (all_of (map f c.args.rows.now))

pub returns-in_err-given : goal.returns-in_err-given
returns-in_err-given c =
    let f = λ (r : Bor Row). result_row alone c.args.list.now r.now in
    let p = err_from_is_err_and c.from_residual.result c.from_residual.ensures.1 in
    rw (p.1, p.2) (code_on (λ (r : Row). r) (λ (rs : List Row). rs) c.in_err-given.field-0.0 (f c.row-item.result) (all_of (map f c.args.rows.now)) c.in_err-given.ensures
    (λ code is. all_stops f c.args.rows.now c.loop-row.row-index c.row-item.result c.loop-row.made (all_of (map f c.args.rows.now)) (omega arith) c.row-item.is c.loop-row.invariant code is))

pub loop-row-preserved : goal.loop-row-preserved
loop-row-preserved c =
    let f = λ (r : Bor Row). result_row alone c.args.list.now r.now in
    ap (λ (front : List Row). put_before front (all_of (map f (drop (c.loop-row.row-index + 1) c.args.rows.now)))) c.in_ok-push.ensures.ok
    ∙ all_next f c.args.rows.now c.loop-row.row-index c.row-item.result c.loop-row.made (all_of (map f c.args.rows.now)) (omega arith) c.row-item.is c.loop-row.invariant
    c.in_ok-given.given c.in_ok-given.ensures

pub returns : goal.returns
returns c =
    let f = λ (r : Bor Row). result_row alone c.args.list.now r.now in
    all_end f c.args.rows.now c.loop-row.row-index c.loop-row.made (all_of (map f c.args.rows.now)) (omega arith) c.loop-row.invariant
