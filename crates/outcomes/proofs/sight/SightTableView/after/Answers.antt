use Rattle.outcomes.proofs.Numbers.{behind_answered, first_answered}
use Rattle.outcomes.proofs.sight.SightTableView.after.Goals as goal

pub returns-in-None : goal.returns-in-None
returns-in-None c =
    let sight = c.args.self.now in
    first_answered c.args.table c.args.key sight.rows.items c.as_slice.result.now c.first_in.result _ c.in-None.is c.as_slice.ensures.value sight.sorted
    c.first_in.ensures c.row_in.ensures

pub returns-in-Some : goal.returns-in-Some
returns-in-Some c =
    let sight = c.args.self.now in
    behind_answered c.args.table c.args.key c.in-Some.key sight.rows.items c.as_slice-in-Some.result.now c.first_behind.result _ c.in-Some.is
    c.as_slice-in-Some.ensures.value sight.sorted c.first_behind.ensures c.row_in-in-Some.ensures
