use Rattle.backend_trait.specs.Keys.{place}
use Rattle.outcomes.proofs.Numbers.{row_found, row_unfound}
use Rattle.outcomes.proofs.sight.SightTableView.row.Goals as goal

pub returns-in-Ok : goal.returns-in-Ok
returns-in-Ok c =
    let sight = c.args.self.now in
    row_found (place c.args.table c.args.key.now) sight.rows.items c.as_slice.result.now c.in-Ok.number c.index.result.now c.as_slice.ensures.value sight.sorted
    c.in-Ok.ensures.at c.index.ensures

pub returns-in-Err : goal.returns-in-Err
returns-in-Err c =
    let sight = c.args.self.now in
    row_unfound (place c.args.table c.args.key.now) sight.rows.items c.as_slice.result.now c.in-Err.field-0 c.as_slice.ensures.value sight.sorted
    c.in-Err.ensures.between
