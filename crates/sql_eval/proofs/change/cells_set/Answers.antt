use Rattle.std.proofs.Common.{◌+◌, List, map, drop, ap, ◌∙◌, arith}
use Rattle.std.proofs.lemmas.Result.{err_from_is_err_and}
use Rattle.pg_values.specs.declared.value.Value.{Value}
use Rattle.sql_eval.specs.Walks.{made, all_of}
use Rattle.sql_eval.specs.Reads.{alone}
use Rattle.sql_eval.specs.Stored.{cells_set, put_sets, set_value}
use Rattle.sql_eval.proofs.Setting.{sets_stop, sets_next}
use Rattle.sql_eval.proofs.Walking.{value_code_on}
use Rattle.sql_eval.proofs.change.cells_set.Goals as goal

pub returns-in_err-value : goal.returns-in_err-value
returns-in_err-value c =
    let f = set_value alone c.args.columns.now c.args.old.now in
    let p = err_from_is_err_and c.from_residual-in_err-value.result c.from_residual-in_err-value.ensures.1 in
    rw (p.1, p.2) (value_code_on (λ (vs : List Value). vs) c.in_err-value.field-0.0 (f c.set-item.result)
    (cells_set alone c.args.columns.now c.args.sets.now c.args.old.now) c.in_err-value.ensures
    (λ code is. sets_stop f c.args.sets.now c.loop-set.set-index c.set-item.result c.loop-set.cells.items
    (cells_set alone c.args.columns.now c.args.sets.now c.args.old.now) (omega arith) c.set-item.is c.loop-set.invariant code is))

pub loop-set-preserved : goal.loop-set-preserved
loop-set-preserved c =
    let f = set_value alone c.args.columns.now c.args.old.now in
    let i = c.loop-set.set-index in
    ap (λ (cells : List Value). made (λ values. put_sets (drop (i + 1) c.args.sets.now) values cells) (all_of (map f (drop (i + 1) c.args.sets.now)))) c.put.ensures
    ∙ sets_next f c.args.sets.now i c.set-item.result c.loop-set.cells.items
    (cells_set alone c.args.columns.now c.args.sets.now c.args.old.now) (omega arith) c.set-item.is c.loop-set.invariant c.in_ok-value.value c.in_ok-value.ensures
