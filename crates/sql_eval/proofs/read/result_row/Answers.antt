use Rattle.std.proofs.Common.{◌+◌, List, map, drop, ap, sym, ◌∙◌, subst, arith}
use Rattle.std.proofs.lemmas.Result.{err_from_is_err_and}
use Rattle.pg_values.specs.declared.value.Value.{Value}
use Rattle.sql_values.specs.Meaning.{value_in}
use Rattle.sql_eval.specs.declared.row.Row.{Row}
use Rattle.sql_eval.specs.Walks.{Coded, GivesAs, behind, all_of}
use Rattle.sql_eval.specs.Reads.{alone, at_row, fitting, row_of, result_row}
use Rattle.sql_eval.proofs.Walking.{put_before, nothing_before, all_stops, all_next, all_end, value_code_on}
use Rattle.sql_eval.proofs.read.result_row.Goals as goal

pub loop-item-init : goal.loop-item-init
loop-item-init c =
    let f = value_in (at_row alone c.args.row.now) in
    ap (λ (front : List Value). put_before front (all_of (map f c.args.list.now))) c.new-cells.ensures ∙ nothing_before (all_of (map f c.args.list.now))

pub returns-in_err-value : goal.returns-in_err-value
returns-in_err-value c =
    let f = value_in (at_row alone c.args.row.now) in
    let p = err_from_is_err_and c.from_residual.result c.from_residual.ensures.1 in
    rw (p.1, p.2) (value_code_on (λ (r : Row). r) c.in_err-value.field-0.0 (f c.item-item.result) (result_row alone c.args.list.now c.args.row.now) c.in_err-value.ensures
    (λ code is. ap (λ (o : Coded (List Value)). behind o (λ cells. fitting (row_of cells)))
    (all_stops f c.args.list.now c.loop-item.item-index c.item-item.result c.loop-item.cells (all_of (map f c.args.list.now)) (omega arith) c.item-item.is c.loop-item.invariant code is)))

pub loop-item-preserved : goal.loop-item-preserved
loop-item-preserved c =
    let f = value_in (at_row alone c.args.row.now) in
    ap (λ (front : List Value). put_before front (all_of (map f (drop (c.loop-item.item-index + 1) c.args.list.now)))) c.in_ok-push.ensures.ok
    ∙ all_next f c.args.list.now c.loop-item.item-index c.item-item.result c.loop-item.cells (all_of (map f c.args.list.now)) (omega arith) c.item-item.is c.loop-item.invariant
    c.in_ok-value.value c.in_ok-value.ensures

pub returns : goal.returns
returns c =
    let f = value_in (at_row alone c.args.row.now) in
    subst (λ (o : Coded (List Value)). GivesAs (λ (r : Row). r) c.fitting.result (behind o (λ cells. fitting (row_of cells))))
    (sym (all_end f c.args.list.now c.loop-item.item-index c.loop-item.cells (all_of (map f c.args.list.now)) (omega arith) c.loop-item.invariant)) c.fitting.ensures
