use Rattle.std.proofs.Common.{◌≡◌, List, subst}
use Rattle.std.specs.Prelude.{Bool as Truth, Option, Ok}
use Rattle.std.proofs.lemmas.Result.{err_from_is_err_and}
use Rattle.catalogue.specs.declared.checked.TypedSet.{TypedSet}
use Rattle.sql_eval.specs.declared.row.Row.{Row}
use Rattle.sql_eval.specs.declared.effect.Change.{Change}
use Rattle.sql_eval.specs.Views.{cell_at, entry_of}
use Rattle.sql_eval.specs.Walks.{Coded}
use Rattle.sql_eval.specs.Reads.{alone, is_kept}
use Rattle.sql_eval.specs.Stored.{change_of, updated_row}
use Rattle.sql_eval.proofs.Changing.{change_stops, change_none, change_refused, change_is}
use Rattle.sql_eval.proofs.Walking.{code_on, value_code_on}
use Rattle.sql_eval.proofs.change.change_of.Goals as goal

pub returns-in_err-stays : goal.returns-in_err-stays
returns-in_err-stays c =
    let change = c.args.change.now in
    let e = entry_of c.args.key c.args.row.now in
    let p = err_from_is_err_and c.from_residual.result c.from_residual.ensures.1 in
    rw (p.1, p.2) (code_on (λ (b : Truth). b) (λ (o : Option Change). o) c.in_err-stays.field-0.0 (is_kept alone change.filter c.args.row.now)
    (change_of alone c.args.columns.now change e) c.in_err-stays.ensures (λ code is. change_stops c.args.columns.now change e code is))

pub returns-then-not-stays : goal.returns-then-not-stays
returns-then-not-stays c =
    change_none c.args.columns.now c.args.change.now (entry_of c.args.key c.args.row.now) c.in_ok-stays.stays c.in_ok-stays.ensures c.if-not-stays.true

pub returns-in_err-new : goal.returns-in_err-new
returns-in_err-new c =
    let change = c.args.change.now in
    let e = entry_of c.args.key c.args.row.now in
    let p = err_from_is_err_and c.from_residual-in_err-new.result c.from_residual-in_err-new.ensures.1 in
    rw (p.1, p.2) (code_on (λ (r : Row). r) (λ (o : Option Change). o) c.in_err-new.field-0.0 (updated_row alone c.args.columns.now c.as_slice.result.now c.args.row.now)
    (change_of alone c.args.columns.now change e) c.in_err-new.ensures
    (λ code is. change_refused c.args.columns.now change e c.in_ok-stays.stays code c.in_ok-stays.ensures c.if-not-stays.false (rw c.as_slice.ensures at is)))

pub returns-in_err-key : goal.returns-in_err-key
returns-in_err-key c =
    let p = err_from_is_err_and c.from_residual-in_err-key.result c.from_residual-in_err-key.ensures.1 in
    rw (p.1, p.2) (value_code_on (λ (o : Option Change). o) c.in_err-key.field-0.0 (Ok (cell_at c.args.key c.args.row.now))
    (change_of alone c.args.columns.now c.args.change.now (entry_of c.args.key c.args.row.now)) c.in_err-key.ensures (λ code is. absurd (cc)))

pub returns : goal.returns
returns c =
    change_is c.args.columns.now c.args.change.now (entry_of c.args.key c.args.row.now) c.in_ok-stays.stays c.in_ok-new.new c.in_ok-key.key c.in_ok-stays.ensures c.if-not-stays.false
    (subst (λ (sets : List TypedSet). updated_row alone c.args.columns.now sets c.args.row.now ≡ Ok c.in_ok-new.new) c.as_slice.ensures c.in_ok-new.ensures) c.in_ok-key.ensures
