use Rattle.std.proofs.Common.{◌≡◌, List, map, subst}
use Rattle.std.specs.Prelude.{ℤ, Ok, Err}
use Rattle.std.proofs.lemmas.Int.{to_z-of_z}
use Rattle.std.proofs.lemmas.Result.{err_from_is_err_and}
use Rattle.schema.specs.declared.catalogue.ColumnDef.{ColumnDef}
use Rattle.sql_eval.specs.declared.row.Row.{Row}
use Rattle.sql_eval.specs.declared.effect.Change.{Change}
use Rattle.sql_eval.specs.Views.{cell_at}
use Rattle.sql_eval.specs.Walks.{GivesAs}
use Rattle.sql_eval.specs.Reads.{alone}
use Rattle.sql_eval.specs.Inserts.{cells_given, row_put_in, unless_taken}
use Rattle.sql_eval.proofs.Inserting.{put_stops, put_refused, put_is}
use Rattle.sql_eval.proofs.Walking.{code_on, value_code_on}
use Rattle.sql_eval.proofs.insert.row_put_in.Goals as goal

pub returns-in_err-given : goal.returns-in_err-given
returns-in_err-given g c =
    let view = g.V.TableView.rows c.args.view.now in
    let table = c.args.table.now in
    let earlier = map (λ (ch : Change). ch.key) c.args.earlier.now in
    let p = err_from_is_err_and c.from_residual.result c.from_residual.ensures.1 in
    rw (p.1, p.2) (code_on (λ (r : Row). r.cells) (λ (ch : Change). ch) c.in_err-given.field-0.0 (cells_given alone c.as_slice.result.now c.args.next c.args.cells.now)
    (row_put_in alone view c.args.number table.columns table.key earlier c.args.next c.args.cells.now)
    (subst (λ (m : ℤ). GivesAs (λ (r : Row). r.cells) (Err c.in_err-given.field-0.0) (cells_given alone c.as_slice.result.now m c.args.cells.now))
    (to_z-of_z _ c.args.next c.ranges.next) c.in_err-given.ensures)
    (λ code is. put_stops alone view c.args.number table.columns table.key earlier c.args.next c.args.cells.now code (rw c.as_slice.ensures at is)))

pub returns-in_err-key : goal.returns-in_err-key
returns-in_err-key g c =
    let view = g.V.TableView.rows c.args.view.now in
    let table = c.args.table.now in
    let earlier = map (λ (ch : Change). ch.key) c.args.earlier.now in
    let p = err_from_is_err_and c.from_residual-in_err-key.result c.from_residual-in_err-key.ensures.1 in
    rw (p.1, p.2) (value_code_on (λ (ch : Change). ch) c.in_err-key.field-0.0 (Ok (cell_at table.key c.in_ok-given.given))
    (row_put_in alone view c.args.number table.columns table.key earlier c.args.next c.args.cells.now) c.in_err-key.ensures (λ code is. absurd (cc)))

pub returns-in_err-row : goal.returns-in_err-row
returns-in_err-row g c =
    let view = g.V.TableView.rows c.args.view.now in
    let table = c.args.table.now in
    let earlier = map (λ (ch : Change). ch.key) c.args.earlier.now in
    let gives = subst (λ (columns : List ColumnDef). cells_given alone columns c.args.next c.args.cells.now ≡ Ok c.in_ok-given.given.cells) c.as_slice.ensures
    (subst (λ (m : ℤ). cells_given alone c.as_slice.result.now m c.args.cells.now ≡ Ok c.in_ok-given.given.cells) (to_z-of_z _ c.args.next c.ranges.next) c.in_ok-given.ensures) in
    let p = err_from_is_err_and c.from_residual-in_err-row.result c.from_residual-in_err-row.ensures.1 in
    rw (p.1, p.2) (code_on (λ (r : Row). r) (λ (ch : Change). ch) c.in_err-row.field-0.0 (unless_taken c.is_taken-taken.result c.in_ok-given.given)
    (row_put_in alone view c.args.number table.columns table.key earlier c.args.next c.args.cells.now) c.in_err-row.ensures
    (λ code is. put_refused alone view c.args.number table.columns table.key earlier c.args.next c.args.cells.now c.in_ok-given.given c.in_ok-key.key c.is_taken-taken.result
    gives c.in_ok-key.ensures c.is_taken-taken.ensures code is))

pub returns : goal.returns
returns g c =
    let view = g.V.TableView.rows c.args.view.now in
    let table = c.args.table.now in
    let earlier = map (λ (ch : Change). ch.key) c.args.earlier.now in
    let gives = subst (λ (columns : List ColumnDef). cells_given alone columns c.args.next c.args.cells.now ≡ Ok c.in_ok-given.given.cells) c.as_slice.ensures
    (subst (λ (m : ℤ). cells_given alone c.as_slice.result.now m c.args.cells.now ≡ Ok c.in_ok-given.given.cells) (to_z-of_z _ c.args.next c.ranges.next) c.in_ok-given.ensures) in
    put_is alone view c.args.number table.columns table.key earlier c.args.next c.args.cells.now c.in_ok-given.given c.in_ok-key.key c.is_taken-taken.result
    gives c.in_ok-key.ensures c.is_taken-taken.ensures c.in_ok-row.row c.in_ok-row.ensures
