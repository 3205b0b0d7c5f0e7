use Rattle.std.proofs.Common.{ℕ, ◌+◌, ◌++◌, [], List, map, drop, ap, ◌∙◌, arith, Bor}
use Rattle.std.specs.Prelude.{Bool as Truth, Option}
use Rattle.std.proofs.lemmas.Result.{err_from_is_err_and}
use Rattle.sql_eval.specs.declared.row.Row.{Row}
use Rattle.sql_eval.specs.Views.{Entry, entry_of}
use Rattle.sql_eval.specs.Walks.{made, walked, with_some}
use Rattle.sql_eval.specs.Reads.{alone, is_kept, kept, where_kept}
use Rattle.sql_eval.proofs.Walking.{put_before, nothing_before, walked_stops, walked_step, walked_end, code_on}
use Rattle.sql_eval.proofs.rows.kept_rows.Goals as goal

pub loop-row-init : goal.loop-row-init
loop-row-init c = λ (key : ℕ).
    let f = λ (r : Bor Row). kept alone c.args.filter.now (entry_of key r.now) in
    ap (λ (rows : List (Bor Row)). put_before (map (λ (r : Bor Row). entry_of key r.now) rows) (walked f c.args.rows.now)) c.new-kept.ensures.items
    ∙ nothing_before (walked f c.args.rows.now)

pub returns-in_err-stays : goal.returns-in_err-stays
returns-in_err-stays c = λ (key : ℕ).
    let f = λ (r : Bor Row). kept alone c.args.filter.now (entry_of key r.now) in
    let p = err_from_is_err_and c.from_residual.result c.from_residual.ensures.1 in
    rw (p.1, p.2) (code_on (λ (b : Truth). b) (λ (rs : List Entry). rs) c.in_err-stays.field-0.0
    (is_kept alone c.args.filter.now c.row-item.result.now) (walked f c.args.rows.now) c.in_err-stays.ensures
    (λ code is. walked_stops f c.args.rows.now c.loop-row.row-index c.row-item.result (map (λ (r : Bor Row). entry_of key r.now) c.loop-row.kept.items)
    (walked f c.args.rows.now) (omega arith) c.row-item.is (c.loop-row.invariant key) code (ap (made (where_kept (entry_of key c.row-item.result.now))) is)))

pub loop-row-preserved : goal.loop-row-preserved
loop-row-preserved c = λ (key : ℕ).
    let f = λ (r : Bor Row). kept alone c.args.filter.now (entry_of key r.now) in
    let e = entry_of key c.row-item.result.now in
    ap (λ (front : List Entry). put_before front (walked f (drop (c.loop-row.row-index + 1) c.args.rows.now))) (c.in_ok-keep_row.ensures key)
    ∙ walked_step f c.args.rows.now c.loop-row.row-index c.row-item.result (map (λ (r : Bor Row). entry_of key r.now) c.loop-row.kept.items)
    (walked f c.args.rows.now) (omega arith) c.row-item.is (c.loop-row.invariant key) (where_kept e c.in_ok-stays.stays) (ap (made (where_kept e)) c.in_ok-stays.ensures)

pub returns : goal.returns
returns c = λ (key : ℕ).
    let f = λ (r : Bor Row). kept alone c.args.filter.now (entry_of key r.now) in
    walked_end f c.args.rows.now c.loop-row.row-index (map (λ (r : Bor Row). entry_of key r.now) c.loop-row.kept.items) (walked f c.args.rows.now) (omega arith)
    (c.loop-row.invariant key)
